-- A block of such bytes is added whole.
use Rattle.vte_core.proofs.lemmas.bytes.Scans.{searches-block}
use Rattle.vte_core.proofs.reader.Reader.skip_ascii_blocks.Goals as goal

pub loop-block-preserved : goal.loop-block-preserved
loop-block-preserved c = searches-block c.loop-block.invariant c.in-Some.ensures
    (c.are_printed_or_layout.ensures c.if-not-are_printed_or_layout.false)

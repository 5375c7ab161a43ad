-- A word of eight printed bytes is added whole, or up to its first byte that is not.
use Rattle.vte_core.proofs.Common.{arith}
use Rattle.vte_core.proofs.lemmas.bytes.Scans.{scans-block, searches-block}
use Rattle.vte_core.proofs.reader.Reader.find_ascii_end_by_words.Goals as goal

pub loop-word-preserved : goal.loop-word-preserved
loop-word-preserved c =
    searches-block c.loop-word.invariant c.in-Some.ensures c.in_default-find_printed_ascii_end.ensures

pub returns-in-Some-find_printed_ascii_end-clause-scans : goal.returns-in-Some-find_printed_ascii_end-clause-scans
returns-in-Some-find_printed_ascii_end-clause-scans c =
    let position = c.in-Some-find_printed_ascii_end.ensures in
    scans-block c.loop-word.invariant c.in-Some.ensures _ (omega (arith, position.0)) position.1

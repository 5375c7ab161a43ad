-- A block of ignored bytes is added whole.
use Rattle.vte_core.proofs.Common.{arith}
use Rattle.vte_core.proofs.lemmas.bytes.Scans.{searches-block}
use Rattle.vte_core.proofs.reader.Reader.find_ignored_string_end.Goals as goal

pub loop-block-preserved : goal.loop-block-preserved
loop-block-preserved c =
    let invariant = c.loop-block.invariant in
    record {
      far = omega (arith, invariant.far);
      searches = searches-block invariant.searches c.in-Some.ensures
          (c.is_ignored_block.ensures c.if-not-is_ignored_block.false);
    }

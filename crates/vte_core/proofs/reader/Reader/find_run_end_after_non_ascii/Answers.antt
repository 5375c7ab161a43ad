-- Each round adds ASCII, or one character that is longer or a kept control, to the run (`searches-X`).
use Rattle.vte_core.proofs.Common.{arith, rules, sym, ◌∙◌}
use Rattle.vte_core.proofs.lemmas.bytes.Runs.{run-none}
use Rattle.vte_core.proofs.lemmas.bytes.Scans.{scans-run, searches-ascii, searches-other}
use Rattle.vte_core.proofs.reader.Reader.find_run_end_after_non_ascii.Goals as goal

pub loop-end-init : goal.loop-end-init
loop-end-init g c = search (rules, arith, run-none)

-- ASCII that is printed, as far as it goes.
pub loop-end-preserved-then-is_printed_ascii : goal.loop-end-preserved-then-is_printed_ascii
loop-end-preserved-then-is_printed_ascii g c =
    let byte = c.byte_at-byte.ensures in
    let ascii = c.find_ascii_end-end.ensures in
    let far = c.min-to-then-is_printed_ascii.ensures in
    let all = c.len-then-is_printed_ascii.ensures in
    record {
      searches =
          searches-ascii c.loop-end.invariant.searches byte.looks byte.value
          (sym c.is_printed_ascii.ensures ∙ c.if-is_printed_ascii.true) ascii.scans ascii.looks_at_most;
      within = omega (arith, far, all);
      pays_for_blocks = λ short. omega (arith, far, all, short);
      singly = λ short near. omega (arith, far, all, short, near);
    }

-- The run goes on by something other than printed ASCII.
pub loop-end-preserved : goal.loop-end-preserved
loop-end-preserved g c =
    let invariant = c.loop-end.invariant in
    let byte = c.byte_at-byte.ensures in
    let other = c.in-Some.ensures in
    record {
      searches =
          searches-other invariant.searches other.reads_some other.within other.run
          (omega (arith, other.looks_if_some, byte.looks));
      within = invariant.within;
      pays_for_blocks = invariant.pays_for_blocks;
      singly = λ short near. omega (arith, invariant.singly short near, other.looks_if_some, byte.looks);
    }

pub returns-clause-scans : goal.returns-clause-scans
returns-clause-scans g c =
    let all = scans-run c.loop-end.invariant.searches.scans c.find_run_end_by_blocks.ensures.scans in
    rw c.keeps_layout-layout.ensures at all

-- Each round adds ASCII, or one character that is longer or a kept control, to the run.
use Rattle.vte_core.proofs.Common.{arith, rules, sym, ◌∙◌}
use Rattle.vte_core.proofs.lemmas.bytes.Runs.{run-none}
use Rattle.vte_core.proofs.lemmas.bytes.Scans.{searches-ascii, searches-other}
use Rattle.vte_core.proofs.reader.Reader.find_run_end_up_to.Goals as goal

pub loop-end-init : goal.loop-end-init
loop-end-init c = search (rules, arith, run-none)

-- ASCII that is printed, as far as it goes.
pub loop-end-preserved-then-is_printed_ascii : goal.loop-end-preserved-then-is_printed_ascii
loop-end-preserved-then-is_printed_ascii c =
    let byte = c.byte_at-byte.ensures in
    let ascii = c.find_ascii_end-end.ensures in
    searches-ascii c.loop-end.invariant byte.looks byte.value
    (sym c.is_printed_ascii.ensures ∙ c.if-is_printed_ascii.true) ascii.scans ascii.looks_at_most

-- The run goes on by something other than printed ASCII.
pub loop-end-preserved : goal.loop-end-preserved
loop-end-preserved c =
    let other = c.in-Some.ensures in
    searches-other c.loop-end.invariant other.reads_some other.within other.run
    (omega (arith, other.looks_if_some, c.byte_at-byte.ensures.looks))

-- A control that is kept is a text of one character, whose event is the control.
use Rattle.vte_core.proofs.Common.{arith, low_scalar, rules}
use Rattle.vte_core.proofs.lemmas.bytes.Runs.{after-character, layout-is_ascii, layout-stays, run_one}
use Rattle.vte_core.proofs.reader.granularity.AnyReceiveAsInRuns.execute_control.Goals as goal

pub print_text-requires-clause-is_run_text : goal.print_text-requires-clause-is_run_text
print_text-requires-clause-is_run_text g c = search (rules, arith, low_scalar, layout-is_ascii, layout-stays, run_one)

pub returns-then-keeps_layout : goal.returns-then-keeps_layout
returns-then-keeps_layout g c = search (rules, arith, low_scalar, layout-is_ascii, after-character)

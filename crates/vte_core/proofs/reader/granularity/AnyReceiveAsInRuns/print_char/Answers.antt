-- A character is a text of one, whose event is to print it.
use Rattle.vte_core.proofs.Common.{arith, rules}
use Rattle.vte_core.proofs.lemmas.bytes.Runs.{after-character, no_control-stays, run_event-no_control, run_one}
use Rattle.vte_core.proofs.reader.granularity.AnyReceiveAsInRuns.print_char.Goals as goal

pub print_text-requires-clause-is_run_text : goal.print_text-requires-clause-is_run_text
print_text-requires-clause-is_run_text g c = search (rules, arith, run_one, no_control-stays)

pub returns : goal.returns
returns g c = search (rules, arith, after-character, run_event-no_control)

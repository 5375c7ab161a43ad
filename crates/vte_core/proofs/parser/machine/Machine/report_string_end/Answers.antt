-- Only an open command reports something at its end: the pieces of the store are those of its items.
use Rattle.vte_core.proofs.Common.{arith, rules}
use Rattle.vte_core.proofs.lemmas.fields.PlaceOfState.{in_command}
use Rattle.vte_core.proofs.lemmas.fields.Stores.{stored_pieces}
use Rattle.vte_core.proofs.parser.machine.Machine.report_string_end.Goals as goal

pub returns-in-SystemCommand-clause-reported : goal.returns-in-SystemCommand-clause-reported
returns-in-SystemCommand-clause-reported g c = search (rules, arith, in_command, stored_pieces)

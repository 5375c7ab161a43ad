-- The bytes that are stored are those of the open command (`forget_ended_command`), and reserving memory leaves them.
use Rattle.vte_core.proofs.Common.{arith, rules}
use Rattle.vte_core.proofs.lemmas.fields.PlaceOfState.{reads_cloned}
use Rattle.vte_core.proofs.lemmas.positions.Open.{open_is_stored}
use Rattle.vte_core.proofs.parser.long_parser.LongParser.reserve.Goals as goal

pub returns-clause-has_room : goal.returns-clause-has_room
returns-clause-has_room g c =
    λ there stream has_read. omega (arith, open_is_stored _ stream has_read, c.reserve.ensures.reserves.suffices there)

pub returns-clause-lacks_open : goal.returns-clause-lacks_open
returns-clause-lacks_open g c = search (rules, arith, reads_cloned)

-- The bytes that are stored are those of the open command.
use Rattle.vte_core.proofs.Common.{arith, rules}
use Rattle.vte_core.proofs.parser.long_parser.LongParser.shrink.Goals as goal

pub returns-clause-frees : goal.returns-clause-frees
returns-clause-frees g c = search (rules, arith)

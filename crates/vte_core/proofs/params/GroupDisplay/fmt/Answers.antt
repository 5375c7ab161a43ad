-- What is written after the last number is the text of the group.
use Rattle.std.proofs.Output.{has_written_of_eq}
use Rattle.vte_core.proofs.Common.{arith, rules}
use Rattle.vte_core.proofs.lemmas.streams.ParameterTexts.{group_written}
use Rattle.vte_core.proofs.params.GroupDisplay.fmt.Goals as goal

pub returns-after-loop-number-clause-writes : goal.returns-after-loop-number-clause-writes
returns-after-loop-number-clause-writes g c plain _ = search (rules, arith, has_written_of_eq, group_written)

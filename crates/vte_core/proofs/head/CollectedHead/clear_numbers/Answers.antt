-- A head begins with no intermediates and no numbers.
use Rattle.vte_core.proofs.Common.{arith, rules}
use Rattle.vte_core.proofs.head.CollectedHead.clear_numbers.Goals as goal
use Rattle.vte_core.proofs.lemmas.fields.Heads.{counts-nothing, holds-nothing}

pub returns-clause-head : goal.returns-clause-head
returns-clause-head c = search (rules, arith, holds-nothing, counts-nothing)

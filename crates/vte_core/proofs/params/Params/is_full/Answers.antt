-- The count is that of the numbers, since the lengths cut all of them.
use Rattle.vte_core.proofs.Common.{arith, rules}
use Rattle.vte_core.proofs.lemmas.fields.FlatGroups.{count_of-cut_by_lengths}
use Rattle.vte_core.proofs.params.Params.is_full.Goals as goal

pub returns : goal.returns
returns c = rw (← c.self.view_is)
    (let count = count_of-cut_by_lengths c.self.invariant.lengths_fit.fit in grind (arith, rules, count))

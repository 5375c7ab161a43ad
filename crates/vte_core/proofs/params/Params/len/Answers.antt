-- There are as many groups as lengths.
use Rattle.vte_core.proofs.Common.{arith, sym, ◌∙◌}
use Rattle.vte_core.proofs.lemmas.fields.FlatGroups.{AreGroups-stored_groups, count_of-cut_by_lengths}
use Rattle.vte_core.proofs.params.Params.len.Goals as goal

pub returns-clause-value : goal.returns-clause-value
returns-clause-value c =
    rw (← c.self.view_is) (c.len.ensures.value ∙ sym (count_of-cut_by_lengths c.self.invariant.lengths_fit.fit))

pub returns-clause-groups : goal.returns-clause-groups
returns-clause-groups c = rw (← c.self.view_is) (AreGroups-stored_groups _ _ c.self.invariant (omega arith))

-- At most 32 numbers are cut by lengths that fit, so the groups are those of parameters.
use Rattle.vte_core.proofs.Common.{length, ◌≤◌}
use Rattle.vte_core.proofs.lemmas.fields.FlatGroups.{AreGroups-stored_groups}
use Rattle.vte_core.proofs.params.Params.iter.Goals as goal

pub returns-clause-groups : goal.returns-clause-groups
returns-clause-groups c =
    let at_most : length c.self.inside.numbers.items ≤ 32 = rw (← c.as_slice.ensures.value) c.as_slice.ensures.fits in
    rw (← c.self.view_is) (AreGroups-stored_groups _ _ c.self.invariant at_most)

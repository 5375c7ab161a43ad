-- The first length is cut off with its numbers, and the other lengths fit the rest.
use Rattle.vte_core.proofs.Common.{List, subst, ℕ}
use Rattle.vte_core.proofs.lemmas.fields.FlatGroups.{AreStoredLengths-rest}
use Rattle.vte_core.proofs.params.ParamsIterIterator.next.Goals as goal
use Rattle.vte_core.specs.private.FlatGroups.{AreStoredLengths}

pub invariant_of-self-2 : goal.invariant_of-self-2
invariant_of-self-2 c = rw (c.split_at-2.ensures.back, c.from.ensures)
    (AreStoredLengths-rest (let P : List ℕ → Type 0 = λ lengths. AreStoredLengths lengths c.self.inside.numbers.now in
    (subst P c.in_ok-length.ensures.cases.0 c.self.invariant).fit))

-- A `;` stores the open number and opens another.
use Rattle.vte_core.proofs.Common.{refl}
use Rattle.vte_core.proofs.head.CollectedHead.end_number.Goals as goal
use Rattle.vte_core.proofs.lemmas.fields.Heads.{counts-separator}

pub returns-clause-counts : goal.returns-clause-counts
returns-clause-counts c = λ text k.
    let stored = c.store_number.ensures in
    counts-separator 59 k (stored.holds text k) refl refl (rw stored.joined c.requires) refl

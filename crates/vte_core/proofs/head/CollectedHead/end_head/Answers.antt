-- The last number is stored, so what is collected is the whole head: whether too many numbers were given or not.
use Rattle.vte_core.proofs.Common.{refl}
use Rattle.vte_core.proofs.head.CollectedHead.end_head.Goals as goal
use Rattle.vte_core.proofs.lemmas.fields.Heads.{head-whole}

pub returns-then-self : goal.returns-then-self
returns-then-self c =
    λ reached head has_read.
    head-whole _ c.store_number-has_room.ensures.holds
    c.store_number-has_room.ensures.same_intermediates has_read (rw c.if-self.true refl)

pub returns-else-self : goal.returns-else-self
returns-else-self c =
    λ reached head has_read.
    head-whole _ c.store_number-has_room.ensures.holds
    c.store_number-has_room.ensures.same_intermediates has_read (rw c.if-self.false refl)

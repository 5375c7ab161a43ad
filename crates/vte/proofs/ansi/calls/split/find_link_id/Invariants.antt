-- The parts that are left have the first that all have.
use Rattle.vte.proofs.ansi.calls.split.find_link_id.Given as goal
use Rattle.vte.proofs.Common.{codes, first_after, parts_left, split_by, ◌≡◌}
use Rattle.vte.proofs.lemmas.calls.SplitTexts.{left_size}

abbrev pub invariant-loop-left : goal.invariant-loop-left
invariant-loop-left l =
    first_after (codes "id=") (parts_left 0x3a l.left) ≡ first_after (codes "id=") (split_by 0x3a l.parameters)

abbrev pub decreases-loop-left : goal.decreases-loop-left
decreases-loop-left l = left_size l.left

-- The modes that are left lead from the handler so far to where all of them lead; the iterator over them is finite.
use Rattle.vte.proofs.ansi.calls.control_sequence.change_modes.Given as goal
use Rattle.vte.proofs.Common.{after, change_calls, first_numbers, ◌≡◌}

abbrev pub invariant-loop-group : goal.invariant-loop-group
invariant-loop-group g l =
    (goal.iterator-loop-group g).can_next l.group-iterator × (goal.iterator-loop-group g).is_finite l.group-iterator
    × (after g.H.Handler.step (g.H.Handler.value_of l.handler) (change_calls l.change (first_numbers l.group-iterator))
    ≡ after g.H.Handler.step (g.H.Handler.value_of l.fn.handler) (change_calls l.change (first_numbers l.fn.params)))

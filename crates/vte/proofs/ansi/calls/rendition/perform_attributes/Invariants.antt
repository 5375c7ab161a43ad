-- The attributes of the groups that are left lead from the handler so far to where those of all groups lead.
use Rattle.vte.proofs.ansi.calls.rendition.perform_attributes.Given as goal
use Rattle.vte.proofs.Common.{after, attribute_calls, length, ◌≡◌}

abbrev pub invariant-loop-group : goal.invariant-loop-group
invariant-loop-group g l =
    after g.H.Handler.step (g.H.Handler.value_of l.handler) (attribute_calls l.groups)
    ≡ after g.H.Handler.step (g.H.Handler.value_of l.fn.handler) (attribute_calls l.fn.params)

abbrev pub decreases-loop-group : goal.decreases-loop-group
decreases-loop-group g l = length l.groups

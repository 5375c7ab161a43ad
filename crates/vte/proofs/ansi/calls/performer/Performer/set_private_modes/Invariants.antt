-- The private modes of the groups that are left lead from the value so far to where those of all groups lead.
use Rattle.vte.proofs.ansi.calls.performer.Performer.set_private_modes.Given as goal
use Rattle.vte.proofs.Common.{performer_value, timeout_meaning, with_private_modes, ◌≡◌}

abbrev pub invariant-loop-group : goal.invariant-loop-group
invariant-loop-group g l =
    let timeout = timeout_meaning g.T.Timeout.set g.T.Timeout.clear g.T.Timeout.allows in
    let set = with_private_modes g.H.Handler.step timeout in
    let value = performer_value g.H.Handler.value_of g.T.Timeout.value_of g.B.TextBuffer.text_capacity in
    set (value l.self) l.group-iterator ≡ set (value l.initial.self) l.initial.group-iterator

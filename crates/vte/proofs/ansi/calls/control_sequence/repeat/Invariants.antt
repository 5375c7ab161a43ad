-- The repetitions that are left lead from the handler so far to where all of them lead.
use Rattle.vte.proofs.ansi.calls.control_sequence.repeat.Given as goal
use Rattle.vte.proofs.Common.{after, Input, replicate, ◌-◌, ◌≡◌}

abbrev pub invariant-loop : goal.invariant-loop
invariant-loop g l =
    after g.H.Handler.step (g.H.Handler.value_of l.handler) (replicate (l.count - l.counter) (Input l.c))
    ≡ after g.H.Handler.step (g.H.Handler.value_of l.fn.handler) (replicate l.count (Input l.c))

-- The timeout was set this many times.
use Rattle.vte.proofs.ansi.updates.engine.set_timeout_times.Given as goal
use Rattle.vte.proofs.Common.{timeout_meaning, timeout_set_times, ◌≡◌}

abbrev pub invariant-loop-time : goal.invariant-loop-time
invariant-loop-time g l =
    g.T.Timeout.value_of l.timeout
    ≡ timeout_set_times (timeout_meaning g.T.Timeout.set g.T.Timeout.clear g.T.Timeout.allows) l._time
    (g.T.Timeout.value_of l.initial.timeout)

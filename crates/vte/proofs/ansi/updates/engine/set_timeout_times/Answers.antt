-- Setting the timeout `count` times and then once more sets it `count + 1` times (`timeout_set_times-add`).
use Rattle.vte.proofs.ansi.updates.engine.set_timeout_times.Goals as goal
use Rattle.vte.proofs.Common.{◌∙◌}
use Rattle.vte.proofs.lemmas.events.EventCalls.{timeout_set_times-add}

pub loop-time-preserved : goal.loop-time-preserved
loop-time-preserved g c =
    c.set_timeout.ensures
    ∙ rw (c.from_millis.ensures, c.loop-time.invariant, timeout_set_times-add _ _ c.loop-time._time 1)

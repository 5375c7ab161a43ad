-- After some of the steps, these lead to where the processor is.
use Rattle.vte.proofs.ansi.laws.replays.replay.Given as goal
use Rattle.vte.proofs.Common.{default_limit, HasReplayed, IsAt, processor_facts, processor_meaning, State, take}

abbrev pub invariant-loop-step : goal.invariant-loop-step
invariant-loop-step g l =
    let meaning = processor_meaning default_limit g.H.Handler.step g.T.Timeout.set g.T.Timeout.clear g.T.Timeout.allows
    in
    (state : State g.H.Handler.Value g.T.Timeout.Value)
    → IsAt (processor_facts g.T.Timeout.value_of l.initial.processor) (g.H.Handler.value_of l.initial.handler) state
    → HasReplayed meaning state (take l.step-index l.steps)
    (IsAt (processor_facts g.T.Timeout.value_of l.processor) (g.H.Handler.value_of l.handler))

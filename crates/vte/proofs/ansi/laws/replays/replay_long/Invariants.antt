-- As for `replay`, without a limit.
use Rattle.vte.proofs.ansi.laws.replays.replay_long.Given as goal
use Rattle.vte.proofs.Common.{HasReplayed, IsAt, long_facts, None, processor_meaning, State, take}

abbrev pub invariant-loop-index : goal.invariant-loop-index
invariant-loop-index g l =
    let meaning = processor_meaning None g.H.Handler.step g.T.Timeout.set g.T.Timeout.clear g.T.Timeout.allows in
    (state : State g.H.Handler.Value g.T.Timeout.Value)
    → IsAt (long_facts g.T.Timeout.value_of l.initial.processor) (g.H.Handler.value_of l.initial.handler) state
    → HasReplayed meaning state (take l.index l.steps)
    (IsAt (long_facts g.T.Timeout.value_of l.processor) (g.H.Handler.value_of l.handler))

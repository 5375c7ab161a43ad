-- The turns so far have led to a state in which the processor is. Each reads a byte or more.
use Rattle.vte.proofs.ansi.updates.engine.Engine.advance.Given as goal
use Rattle.vte.proofs.Common.{engine_facts, engine_view, FromEachState, length, processor_meaning, ◌<◌, ◌≤◌}
use Rattle.vte.proofs.lemmas.turns.EngineTurns.{HasTakenTurns}

abbrev pub invariant-loop-turn : goal.invariant-loop-turn
invariant-loop-turn g l =
    let meaning = processor_meaning g.P.EventParser.limit g.H.Handler.step g.T.Timeout.set g.T.Timeout.clear
    g.T.Timeout.allows in
    let view = engine_view g.P.EventParser.limit g.P.EventParser.view g.B.TextBuffer.text_capacity g.T.Timeout.value_of
    in
    record {
      within : l.read ≤ length l.bytes;
      some : l._turn < length l.bytes → l.read < length l.bytes;
      reaches : FromEachState (engine_facts view l.initial.self) (engine_facts view l.self)
          (g.H.Handler.value_of l.initial.handler) (g.H.Handler.value_of l.handler)
          (λ state. HasTakenTurns meaning state l.bytes l._turn l.read);
    }

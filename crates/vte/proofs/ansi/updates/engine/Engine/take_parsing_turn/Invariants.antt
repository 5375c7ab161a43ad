-- The slices so far begin no update, and are parsed. Each has at least one byte, so the loop reads all.
use Rattle.vte.proofs.ansi.updates.engine.Engine.take_parsing_turn.Given as goal
use Rattle.vte.proofs.Common.{engine_facts, engine_view, FromEachState, HasParsedWithoutBegin, length, processor_meaning, ◌<◌, ◌≤◌}

abbrev pub invariant-loop-slice : goal.invariant-loop-slice
invariant-loop-slice g l =
    let meaning = processor_meaning g.P.EventParser.limit g.H.Handler.step g.T.Timeout.set g.T.Timeout.clear
    g.T.Timeout.allows in
    let view = engine_view g.P.EventParser.limit g.P.EventParser.view g.B.TextBuffer.text_capacity g.T.Timeout.value_of
    in
    record {
      within : l.read ≤ length l.bytes;
      some : l._slice < length l.bytes → l.read < length l.bytes;
      reaches : FromEachState (engine_facts view l.initial.self) (engine_facts view l.self)
          (g.H.Handler.value_of l.initial.handler) (g.H.Handler.value_of l.handler)
          (λ state IsReached. (l._slice ≤ l.read)
          × HasParsedWithoutBegin meaning state l.bytes l.read IsReached);
    }

-- What the hold releases is parsed: all of it with a stop if nothing stays held, otherwise a prefix of it.
use Rattle.vte.proofs.ansi.updates.engine.Engine.hold_bytes.Goals as goal
use Rattle.vte.proofs.Common.{arith, processor_meaning, sym, ◌∙◌}
use Rattle.vte.proofs.lemmas.turns.HoldTurns.{turned_cut, turned_stop}

pub returns-then-len-eq0 : goal.returns-then-len-eq0
returns-then-len-eq0 g c = λ state is_at memory.
    let meaning = processor_meaning g.P.EventParser.limit g.H.Handler.step g.T.Timeout.set g.T.Timeout.clear
    g.T.Timeout.allows in
    turned_stop meaning is_at (rw is_at.processor_is.holds at c.add-begin_count.ensures) c.set_timeout_times.ensures
    memory c.requires.not_empty (sym c.len.ensures.count ∙ c.if-len-eq0.true) c.end_update.ensures.stops

pub returns-else-len-eq0 : goal.returns-else-len-eq0
returns-else-len-eq0 g c = λ state is_at memory.
    let meaning = processor_meaning g.P.EventParser.limit g.H.Handler.step g.T.Timeout.set g.T.Timeout.clear
    g.T.Timeout.allows in
    let releases = c.parse_released.ensures in
    turned_cut meaning is_at (rw is_at.processor_is.holds at c.add-begin_count.ensures) c.set_timeout_times.ensures
    memory (omega (arith, c.len.ensures.count, c.if-len-eq0.false))
    releases.parsed releases.leaves_memory releases.same_hold

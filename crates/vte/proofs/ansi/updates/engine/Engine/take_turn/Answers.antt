-- By the timeout's answer: the bytes are held while an update is pending and they fit the hold. Otherwise it is
-- stopped if it is pending or bytes are held, and the turn parses.
use Rattle.vte.proofs.ansi.updates.engine.Engine.take_turn.Goals.{else-pending-2+else-len-gt0, else-pending-via-else-pending, else-pending-via-then-pending+else-has_room, then-pending-2, then-pending-2-via-else-pending-2+then-len-gt0, then-pending-2-via-then-pending-2}
use Rattle.vte.proofs.ansi.updates.engine.Engine.take_turn.Goals as goal
use Rattle.vte.proofs.Common.{and-false, arith, engine_facts, engine_view, EngineReaches, false, held_of, inr, length, max_held, nat_le, nat_tests, processor_meaning, refl, sym, true, ◌+◌, ◌<◌, ◌∙◌, ◌≡◌}
use Rattle.vte.proofs.lemmas.turns.EngineTurns.{ends_turn, engine-at_stop, reaches-reserved, reaches-same, reaches-then, turned_hold}
use Rattle.vte.proofs.lemmas.turns.RefusedTurns.{refused-nothing}
use Rattle.vte.proofs.lemmas.turns.TurnKinds.{is_held, is_stopped, stop_if_due}

-- A parsing turn: the bytes are not to be held, and what was pending or held is stopped first, as `parsed` says.
pub returns-clause-turned : goal.returns-clause-turned
returns-clause-turned g c = λ state is_at.
    let pending = c.pending_timeout-pending.result in
    let not_held : is_held pending state c.args.bytes.now ≡ false = elim c.else-pending.branch [
      -- The bytes don't fit the hold.
      | else-pending-via-then-pending+else-has_room branch ↦
          let full : nat_le (length state.held + length c.args.bytes.now) max_held ≡ false =
          rw (← is_at.processor_is.holds) (sym branch.has_room.ensures ∙ branch.if-has_room.false) in
          rw (full, and-false) refl
      -- No update is pending.
      | else-pending-via-else-pending branch ↦ rw branch.if-pending.false refl
    ] in
    let meaning = processor_meaning g.P.EventParser.limit g.H.Handler.step g.T.Timeout.set g.T.Timeout.clear
    g.T.Timeout.allows in
    let view = engine_view g.P.EventParser.limit g.P.EventParser.view g.B.TextBuffer.text_capacity g.T.Timeout.value_of
    in
    let here : EngineReaches (engine_facts view c.args.self.now)
    (engine_facts view c.if-pending-2.self) (g.H.Handler.value_of c.if-pending-2.handler)
    (stop_if_due meaning pending state) = elim c.if-pending-2.branch [
      -- The update is stopped first.
      | then-pending-2 branch ↦
          let stopped : is_stopped pending state ≡ true = elim branch.then-pending-2.branch [
            | then-pending-2-via-then-pending-2 v ↦ rw v.if-pending-2.true refl
            | then-pending-2-via-else-pending-2+then-len-gt0 v ↦
                let some_held : 0 < length state.held =
                rw (← is_at.processor_is.holds) (omega (arith, v.len.ensures.count, v.if-len-gt0.true)) in
                grind (arith, nat_tests)
          ] in
          rw (branch.self-is, branch.handler-is, stopped) (engine-at_stop branch.stop.ensures.stopped is_at)
      -- Nothing is held.
      | else-pending-2+else-len-gt0 branch ↦
          let none_held : length state.held ≡ 0 =
          rw (← is_at.processor_is.holds) (omega (arith, branch.len.ensures.count, branch.if-len-gt0.false)) in
          let not_stopped : is_stopped pending state ≡ false = rw (branch.if-pending-2.false, none_held) refl in
          rw (branch.self-is, branch.handler-is, not_stopped) (reaches-same is_at)
    ] in
    ends_turn pending
    (rw is_at.processor_is.timeout_is at c.pending_timeout-pending.ensures) not_held here _
    c.take_parsing_turn.ensures.within
    (c.take_parsing_turn.ensures.parsed _ here.engine_at)

-- A hold turn: an update is pending, the bytes fit the hold, and there is memory for them.
pub returns-then-has_room-clause-turned : goal.returns-then-has_room-clause-turned
returns-then-has_room-clause-turned g c = λ state is_at.
    let here = reaches-reserved c.reserve.ensures.reserved (reaches-same is_at) in
    let fits : nat_le (length state.held + length c.args.bytes.now) max_held ≡ true =
    rw (← is_at.processor_is.holds) (sym c.has_room.ensures ∙ c.if-has_room.true) in
    let held : is_held c.pending_timeout-pending.result state c.args.bytes.now ≡ true =
    rw (c.if-pending.true, fits) refl in
    record {
      turned = turned_hold _ (rw is_at.processor_is.timeout_is at c.pending_timeout-pending.ensures) held refl
          (reaches-then here
          (c.hold_bytes.ensures state here.engine_at
          (c.if-not-reserve.ensures.reserved.memory refl _ _ _ here.engine_at.processor_is)));
      refused = tt;
    }

-- Memory was refused before anything was read.
pub returns-then-not-reserve-clause-turned : goal.returns-then-not-reserve-clause-turned
returns-then-not-reserve-clause-turned g c =
    λ state is_at. record {
      turned = tt;
      refused = refused-nothing _ (reaches-reserved c.reserve.ensures.reserved (reaches-same is_at));
    }

-- Memory was refused for all bytes, which fit the hold.
pub returns-then-not-reserve-clause-lacks_memory : goal.returns-then-not-reserve-clause-lacks_memory
returns-then-not-reserve-clause-lacks_memory g c =
    let fits : nat_le (length (held_of c.reserve.new.self.hold) + length c.args.bytes.now) max_held ≡ true =
    rw c.reserve.ensures.same_hold (sym c.has_room.ensures ∙ c.if-has_room.true) in
    record {
      more = length c.args.bytes.now;
      within = omega arith;
      at_most = inr (grind (arith, nat_tests));
      lacks_memory = c.reserve.ensures.reserved.lacks_memory c.if-not-reserve.true;
    }

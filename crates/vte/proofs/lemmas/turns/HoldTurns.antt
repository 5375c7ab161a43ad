-- A hold turn, of states and of the engine: bytes join the hold, the timeout is set as often as they begin updates, and
-- what the hold releases is parsed, with a stop if nothing stays held.
use Rattle.std.proofs.lemmas.List.{nil_from_length}
use Rattle.vte.proofs.Common.{AddsToHold, after_last_end, ap, arith, EndsUpdate, Engine, engine_facts, EngineIsAt, EngineReaches, EngineView, extend, from_begin_update, held_of, hold_turn, inl, inr, length, length-append, length-take, List, Meaning, parse, ParsesReleased, PartsAreAt, PartsLeaveMemory, refl, release, released_of, rules, State, still_held, stop, sym, take, take_all, timeout_set_times, with_held, ℕ, [], ◌++◌, ◌+◌, ◌-◌, ◌<◌, ◌∙◌, ◌∷◌, ◌≡◌}
use Rattle.vte.proofs.lemmas.turns.Slices.{parse-nothing}
use Rattle.vte.proofs.lemmas.turns.TurnKinds.{hold_turn-all, hold_turn-rest}
use Rattle.vte.proofs.lemmas.updates.Sequences.{cases_Option, stays_held, suffix-length}
use Rattle.vte.specs.declared.ansi.updates.hold.SyncState.{SyncState}

module _ {V W : Type 0} (meaning : Meaning V W) where
  -- The bytes before those kept are parsed, and these stay held.
  abbrev cut : State V W → List ℕ → State V W
  cut state kept = with_held (parse meaning state (take (length state.held - length kept) state.held)) kept

  release-some : (state : State V W) (kept : List ℕ) → 0 < length kept → release meaning state kept ≡ cut state kept
  release-some state [] some_kept = absurd (omega arith)
  release-some state (b ∷ kept) some_kept = refl

  -- If some bytes stay held, a turn cuts off those before them; if none do, it stops the update.
  holds-some : (state : State V W) (bytes : List ℕ) → 0 < length (still_held (state.held ++ bytes))
      → hold_turn meaning state bytes ≡ cut (extend meaning state bytes) (still_held (state.held ++ bytes))
  holds-some state bytes some_held = elim (cases_Option (after_last_end (state.held ++ bytes))) [
    | inl no_end ↦
        let all = state.held ++ bytes in
        let still_held_is : still_held all ≡ all = rw no_end refl in
        let no_prefix : length all - length all ≡ 0 = omega arith in
        hold_turn-all meaning state bytes no_end
        ∙ rw (still_held_is, no_prefix)
        (sym (ap (λ state. with_held state all) (parse-nothing meaning (extend meaning state bytes))))
    | inr last_end ↦
        let still_held_is : still_held (state.held ++ bytes) ≡ from_begin_update last_end.0 = rw last_end.1 refl in
        hold_turn-rest meaning state bytes last_end.1
        ∙ rw still_held_is (release-some (extend meaning state bytes) (from_begin_update last_end.0)
        (rw still_held_is at some_held))
  ]

  holds-none : (state : State V W) (bytes : List ℕ) → 0 < length (state.held ++ bytes)
      → still_held (state.held ++ bytes) ≡ []
      → hold_turn meaning state bytes ≡ stop meaning (extend meaning state bytes)
  holds-none state bytes some_bytes none_held = search (rules, arith)

-- The hold has the new bytes, and the timeout was set as often as they begin updates.
module _ {P B T A V W : Type 0} {view : EngineView P B T W} (meaning : Meaning V W) {state : State V W} {more : List ℕ}
    {old : Engine P B T A} {hold : SyncState A} {timeout : T} {begin_count : ℕ} {value : V}
    (is_at : EngineIsAt view old value state) (added : AddsToHold state.held more hold begin_count)
    (is_set : view.timeout_of timeout ≡ timeout_set_times meaning.timeout begin_count
    (view.timeout_of old.state.timeout))
    (memory : view.parser.has_memory old.parser (view.text_capacity_of old.state.text) state.parsed
    (length state.held + length more)) where
  -- The engine with this hold and this timeout.
  abbrev extended_engine : Engine P B T A
  extended_engine = record old { hold = hold; state = record old.state { timeout = timeout } }

  -- There is memory to parse this many more bytes.
  abbrev HasMemoryFor : List ℕ → ℕ → Type 0
  HasMemoryFor = view.parser.has_memory old.parser (view.text_capacity_of old.state.text)

  parts-extended : PartsAreAt view extended_engine.parser extended_engine.state value (extend meaning state more)
  parts-extended = record {
    has_read = is_at.processor_is.has_read;
    last = is_at.processor_is.last;
    timeout_is = is_set ∙ rw (is_at.processor_is.timeout_is, added.begin_count_is);
    handler_is = is_at.handler_is;
  }

  -- If some bytes stay held, the released ones are parsed, with memory to parse the others later.
  pub turned_cut : {last : Engine P B T A} {next : V} → 0 < length (held_of hold)
      → ParsesReleased view meaning extended_engine.parser extended_engine.state value last.parser last.state next
      (released_of hold)
      → PartsLeaveMemory view extended_engine.parser extended_engine.state value last.parser last.state
      (released_of hold)
      → last.hold ≡ hold → EngineReaches (engine_facts view old) (engine_facts view last) next
      (hold_turn meaning state more)
  turned_cut {last} {next} some_held parses leaves same_hold =
      let extended_state = extend meaning state more in
      let all = state.held ++ more in
      let rest = length (held_of hold) in
      -- The released and the held bytes together are as many as the old and the new ones.
      let sum : length (released_of hold) + rest ≡ length state.held + length more =
      rw (added.released_is, added.held_is) (
      omega (
        arith,
        length-take (length all - length (still_held all)) all,
        suffix-length
            (stays_held all).suffix,
        length-append state.held more,
      )) in
      -- So there is memory to parse the released bytes, and the held ones later.
      let ready : HasMemoryFor state.parsed
      (length (released_of hold) + rest)
      =
      rw sum memory in
      -- The released bytes are parsed, which leads to the state after the bytes before `still_held`.
      let there = parses extended_state rest parts-extended (λ some_released. ready) in
      let parsed : PartsAreAt view last.parser last.state next
      (parse meaning extended_state (take (length all - length (still_held all)) all)) =
      rw added.released_is at there.parts_at in
      -- As some bytes stay held, the turn is this cut.
      rw (holds-some meaning state more (rw added.held_is at some_held)) (record {
        engine_at = record {
          processor_is = record {
            has_read = parsed.has_read;
            last = parsed.last;
            timeout_is = parsed.timeout_is;
            holds = rw same_hold added.held_is;
            has_memory =
                λ some_left.
                rw (added.released_is, added.held_is) at (leaves extended_state rest
                (record { parts_at = parts-extended; memory = ready }));
          };
          handler_is = parsed.handler_is;
        };
        keeps_memory = there.keeps_memory;
      })

  -- If no bytes stay held, the update is stopped.
  pub turned_stop : {last : Engine P B T A} {next : V} → 0 < length more → length (held_of hold) ≡ 0
      → EndsUpdate view meaning extended_engine last value next
      → EngineReaches (engine_facts view old) (engine_facts view last) next
      (hold_turn meaning state more)
  turned_stop {last} {next} some_bytes none_held stops =
      let all = state.held ++ more in
      -- No byte stays held, so all of them are released.
      let nothing_held : held_of hold ≡ [] = nil_from_length (held_of hold) none_held in
      let none_left : still_held all ≡ [] = sym added.held_is ∙ nothing_held in
      let released_all : released_of hold ≡ all =
      added.released_is ∙ rw none_left (take_all (length all - 0) all (omega arith)) in
      let sum : length all + 0 ≡ length state.held + length more = omega (arith, length-append state.held more) in
      -- The stop parses all of them, for which there is memory.
      let there = stops (extend meaning state more) 0 parts-extended released_all nothing_held
      (λ some_held. rw sum memory) in
      -- As no byte stays held, the turn is this stop.
      rw (holds-none meaning state more (omega (arith, some_bytes, length-append state.held more)) none_left)
      (record { engine_at = there.engine_at; keeps_memory = there.keeps_memory })

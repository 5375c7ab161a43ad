-- Turns and stops keep `HoldInvariant`: by cases of the timeout's answer and of what a hold turn keeps, which is all,
-- or starts with a begin-update, or is nothing.
use Rattle.vte.proofs.Common.{added, after_last_end, AllowsOnly, ap, append-nil, arith, begin_count, begin_update, begins_ending_in_last, Bool, cases_Bool, cases_lt, done, extend, from_begin_update, hold_turn, HoldInvariantAt, inl, inr, IsInsideUpdate, IsOutsideUpdate, IsSteady, length, length-append, List, max_held, Meaning, nat_tests, parsing_turn, part_after_last_end, prefix_to_begin, refl, release, rules, State, stop, suc, take, TakesTurns, timeout_set_times, TimeoutMeaning, true, turn, turns, update_nanos, zero, ℕ, [], ◌++◌, ◌-◌, ◌<◌, ◌∷◌, ◌≡◌, ◌≤◌}
use Rattle.vte.proofs.lemmas.turns.EachOnce.{stop_if_due-holds_nothing}
use Rattle.vte.proofs.lemmas.turns.TurnKinds.{hold_turn-all, hold_turn-rest, is_held, stop_if_due, turn-holds, turn-parses}
use Rattle.vte.proofs.lemmas.updates.Prefixes.{prefix-is}
use Rattle.vte.proofs.lemmas.updates.Sequences.{cases_Option, is_prefix_of-append, stays_held, StaysHeld, suffix-length}

-- ---- a steady timeout is pending once it is set, and stays so when it is set again

module _ {W : Type 0} (meaning : TimeoutMeaning W) (steady : IsSteady meaning) where
  -- A timeout that is pending stays so, however often it is set.
  allows-still_pending : (n : ℕ) (value : W) → AllowsOnly meaning value true
      → AllowsOnly meaning (timeout_set_times meaning n value) true
  allows-still_pending zero value allows = allows
  allows-still_pending (suc n) value allows =
      allows-still_pending n (meaning.set value update_nanos) (steady.set value update_nanos)

  -- Once it is set it is pending, whatever it was before.
  allows-pending : (n : ℕ) (value : W) → 0 < n → AllowsOnly meaning (timeout_set_times meaning n value) true
  allows-pending zero value some_times = absurd (omega arith)
  allows-pending (suc n) value some_times =
      allows-still_pending n (meaning.set value update_nanos) (steady.set value update_nanos)

-- ---- a stop

module _ {V W : Type 0} (meaning : Meaning V W) where
  -- A stop clears the timeout and empties the hold.
  stop-outside : (state : State V W) → IsSteady meaning.timeout
      → IsOutsideUpdate meaning.timeout [] (stop meaning state).timeout
  stop-outside state steady = record { not_pending = steady.clear _; none_held = refl }

  -- After a stop the invariant is true, even if it wasn't before.
  pub stop-invariant : (state : State V W) → HoldInvariantAt meaning (stop meaning state)
  stop-invariant state = record {
    no_end = refl;
    fits = omega arith;
    steady = λ steady. inl (stop-outside state steady);
  }

  -- ---- a parsing turn

  -- A parsing turn begins outside an update, and ends there or with the byte that begins one.
  parsing_turn-invariant : (state : State V W) (bytes : List ℕ) → state.held ≡ []
      → (IsSteady meaning.timeout → IsOutsideUpdate meaning.timeout state.held state.timeout)
      → HoldInvariantAt meaning (parsing_turn meaning state bytes).state
  parsing_turn-invariant state bytes none_held outside =
      let prefix = prefix_to_begin meaning.limit state.parsed bytes in
      let found = prefix-is meaning.limit state.parsed bytes in
      record {
        no_end = rw none_held refl;
        fits = rw none_held (omega arith);
        steady = λ steady. elim (cases_lt 0 (begin_count (added meaning.limit state.parsed prefix))) [
          | inl some_begin ↦
              inr (record {
                pending = allows-pending meaning.timeout steady _ state.timeout some_begin;
                update_began = inl (rw found.prefix_is (found.ends (rw found.prefix_is at some_begin)));
              })
          | inr no_begin ↦
              let none_begin : begin_count (added meaning.limit state.parsed prefix) ≡ 0 = omega arith in
              inl (record { not_pending = rw none_begin (outside steady).not_pending; none_held = none_held })
        ];
      }

  -- ---- a turn that holds

  -- Bytes that stay held are all of them or start with a begin-update, so the update is still open.
  release-invariant : (state : State V W) (kept : List ℕ) → StaysHeld state.held kept → length state.held ≤ max_held
      → (IsSteady meaning.timeout → IsInsideUpdate meaning.limit meaning.timeout state.parsed state.held state.timeout)
      → HoldInvariantAt meaning (release meaning state kept)
  release-invariant state [] stays fits inside = stop-invariant state
  release-invariant state (b ∷ kept) stays fits inside = record {
    no_end = stays.no_end;
    fits = omega (arith, suffix-length stays.suffix);
    steady = λ steady. inr (record {
      pending =
          allows-still_pending meaning.timeout steady
          (begin_count (added meaning.limit state.parsed (take (length state.held - suc (length kept)) state.held)))
          state.timeout
          (inside steady).pending;
      update_began = elim stays.begins [
        | inl kept_all ↦ let none_released : length state.held - suc (length kept) ≡ 0 =
            omega (arith, ap length kept_all) in
            rw (none_released, append-nil) (rw (← kept_all) at (inside steady).update_began)
        | inr begins ↦ inr (begins (omega arith))
      ];
    });
  }

  -- If a steady timeout answers "pending", an update is open: outside one, it can't give that answer.
  inside-pending : (state : State V W) → HoldInvariantAt meaning state → meaning.timeout.allows state.timeout true
      → IsSteady meaning.timeout
      → IsInsideUpdate meaning.limit meaning.timeout state.parsed state.held state.timeout
  inside-pending state hold_invariant allowed steady = search (rules, arith)

  -- A parsing turn begins outside an update, since one that is due was stopped.
  stop_if_due-outside : (pending : Bool) (state : State V W) → meaning.timeout.allows state.timeout pending
      → HoldInvariantAt meaning state
      → IsSteady meaning.timeout
      → IsOutsideUpdate meaning.timeout (stop_if_due meaning pending state).held
      (stop_if_due meaning pending state).timeout
  stop_if_due-outside pending state allowed hold_invariant steady = search (rules, arith)

  -- By whether the hold then has an end-update: if not, all bytes stay held, and if so, those that `release` keeps.
  hold_turn-invariant : (state : State V W) (bytes : List ℕ) → HoldInvariantAt meaning state
      → meaning.timeout.allows state.timeout true
      → length (state.held ++ bytes) ≤ max_held → HoldInvariantAt meaning (hold_turn meaning state bytes)
  hold_turn-invariant state bytes hold_invariant allowed fits =
      let inside : IsSteady meaning.timeout
      → IsInsideUpdate meaning.limit meaning.timeout state.parsed (state.held ++ bytes)
      (extend meaning state bytes).timeout =
      λ steady. (let is_inside = inside-pending state hold_invariant allowed steady in record {
        pending = allows-still_pending meaning.timeout steady
            (begins_ending_in_last (length bytes)
            (part_after_last_end (state.held ++ bytes))) state.timeout is_inside.pending;
        update_began = elim is_inside.update_began [
          | inl parsed_begin ↦ inl parsed_begin
          | inr begins ↦ inr (is_prefix_of-append begin_update state.held bytes begins)
        ];
      }) in
      elim (cases_Option (after_last_end (state.held ++ bytes))) [
        | inl no_end ↦
            rw (hold_turn-all meaning state bytes no_end)
            (record { no_end = no_end; fits = fits; steady = λ steady. inr (inside steady) })
        | inr last_end ↦
            rw (hold_turn-rest meaning state bytes last_end.1)
            (release-invariant (extend meaning state bytes) (from_begin_update last_end.0)
            (rw last_end.1 at (stays_held (state.held ++ bytes))) fits inside)
      ]

  -- ---- a turn, and turns of a call

  -- A turn holds bytes, which then fit, or it parses them.
  pub turn-invariant : (pending : Bool) (state : State V W) (bytes : List ℕ)
      → meaning.timeout.allows state.timeout pending
      → HoldInvariantAt meaning state
      → HoldInvariantAt meaning (turn meaning pending state bytes).state
  turn-invariant pending state bytes allowed hold_invariant = elim (cases_Bool (is_held pending state bytes)) [
    | inl held ↦ let is_pending : pending ≡ true =
        grind (arith, nat_tests) in
        rw (turn-holds meaning pending state bytes held)
        (hold_turn-invariant state bytes hold_invariant (rw is_pending at allowed)
        (grind (arith, nat_tests, length-append state.held bytes)))
    | inr not_held ↦
        rw (turn-parses meaning pending state bytes not_held)
        (parsing_turn-invariant (stop_if_due meaning pending state) bytes
        (stop_if_due-holds_nothing meaning pending state)
        (stop_if_due-outside pending state allowed hold_invariant))
  ]

  -- By induction over the turns.
  pub turns-invariant : {state next : State V W} {bytes left : List ℕ} → TakesTurns meaning state bytes next left
      → HoldInvariantAt meaning state
      → HoldInvariantAt meaning next
  turns-invariant done hold_invariant = hold_invariant
  turns-invariant {state} {next} {bytes = b ∷ bytes} {left} (turns pending allowed takes) hold_invariant =
      turns-invariant takes (turn-invariant pending state (b ∷ bytes) allowed hold_invariant)

-- What a turn is, by cases: a hold turn by whether the hold has an end-update, and any turn by whether its bytes are
-- held. If they aren't, an update that is due is stopped first, and the bytes are parsed.
use Rattle.std.specs.Prelude.{if◌then◌else◌, ◌&&◌}
use Rattle.vte.proofs.Common.{after_last_end, arith, Bool, extend, false, from_begin_update, hold_turn, length, List, max_held, Meaning, nat_le, nat_lt, None, parsing_turn, ParsingTurnIsRefused, refl, release, rules, Some, State, stop, true, turn, TurnIsRefused, ℕ, [], ◌++◌, ◌+◌, ◌||◌, ◌≡◌}

-- ---- hold turns

module _ {V W : Type 0} (meaning : Meaning V W) (state : State V W) (bytes : List ℕ) where
  -- Without an end-update all bytes stay held.
  pub hold_turn-all : after_last_end (state.held ++ bytes) ≡ None
      → hold_turn meaning state bytes ≡ extend meaning state bytes
  hold_turn-all no_end = rw no_end refl

  -- With one, only what follows the last may stay held, from its first begin-update on.
  pub hold_turn-rest : {rest : List ℕ} → after_last_end (state.held ++ bytes) ≡ Some rest
      → hold_turn meaning state bytes ≡ release meaning (extend meaning state bytes) (from_begin_update rest)
  hold_turn-rest last_end = rw last_end refl

-- ---- whether bytes are held, and what is stopped before they are parsed

-- Bytes are held if the timeout is pending, and there is room for all of them.
abbrev pub is_held : {V W : Type 0} → Bool → State V W → List ℕ → Bool
is_held pending state bytes = pending && nat_le (length state.held + length bytes) max_held

-- If bytes aren't held, a pending update is full, and held bytes are of an update that has expired.
abbrev pub is_stopped : {V W : Type 0} → Bool → State V W → Bool
is_stopped pending state = pending || nat_lt 0 (length state.held)

-- The state from which bytes that aren't held are parsed.
abbrev pub stop_if_due : {V W : Type 0} → Meaning V W → Bool → State V W → State V W
stop_if_due meaning pending state = if is_stopped pending state then stop meaning state else state

-- A parsing turn, after a stop if need be, was refused memory.
abbrev pub ParsesUntilRefused : {V W : Type 0} → Meaning V W → Bool → State V W → List ℕ → State V W → List ℕ → Type 0
ParsesUntilRefused meaning pending state bytes next left =
    (is_held pending state bytes ≡ false)
    × ParsingTurnIsRefused meaning (stop_if_due meaning pending state) bytes next left

module _ {V W : Type 0} (meaning : Meaning V W) where
  -- A turn that holds its bytes leaves none.
  pub turn-holds : (pending : Bool) (state : State V W) (bytes : List ℕ) → is_held pending state bytes ≡ true
      → turn meaning pending state bytes ≡ record { state = hold_turn meaning state bytes; rest = [] }
  turn-holds pending state bytes held = search (rules, arith)

  -- Any other turn is a parsing turn, after a stop if one is due.
  pub turn-parses : (pending : Bool) (state : State V W) (bytes : List ℕ) → is_held pending state bytes ≡ false
      → turn meaning pending state bytes ≡ parsing_turn meaning (stop_if_due meaning pending state) bytes
  turn-parses pending state bytes not_held = search (rules, arith)

  -- Only a turn that parses is refused memory.
  pub refused-parses : (pending : Bool) (state next : State V W) (bytes left : List ℕ)
      → TurnIsRefused meaning pending state bytes next left
      → ParsesUntilRefused meaning pending state bytes next left
  refused-parses pending state next bytes left refused = search (rules, arith)

  -- The converse.
  pub refused-by_parsing : (pending : Bool) (state next : State V W) (bytes left : List ℕ)
      → ParsesUntilRefused meaning pending state bytes next left
      → TurnIsRefused meaning pending state bytes next left
  refused-by_parsing pending state next bytes left refused = search (rules, arith)

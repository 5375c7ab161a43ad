-- Each given byte is parsed or held, once and in order. Each turn and stop keeps `Progresses`: parsed, held and left
-- bytes together are those of before, and `Progresses` composes over the turns of a call and over calls.
use Rattle.std.proofs.lemmas.List.{nil_from_length}
use Rattle.vte.proofs.Common.{Advance, after_last_end, all_bytes, ap, append-nil, append_assoc, arith, Bool, cases_Bool, done, drop, extend, given_bytes, hold_turn, inl, inr, length, List, Meaning, Option, parse, prefix_to_begin, refl, release, rules, State, Step, stop, StopSync, sym, take-append-drop, TakesSteps, TakesTurns, turn, turns, ℕ, [], ◌++◌, ◌-◌, ◌∙◌, ◌∷◌, ◌≡◌}
use Rattle.vte.proofs.lemmas.turns.TurnKinds.{hold_turn-all, hold_turn-rest, is_held, stop_if_due, turn-holds, turn-parses}
use Rattle.vte.proofs.lemmas.updates.Prefixes.{prefix-is}
use Rattle.vte.proofs.lemmas.updates.Sequences.{cases_Option, stays-is}

-- The bytes that a parsing turn parses and those that it leaves are all its bytes.
pub prefix-rest : (limit : Option ℕ) (stream bytes : List ℕ)
    → prefix_to_begin limit stream bytes ++ drop (length (prefix_to_begin limit stream bytes)) bytes ≡ bytes
prefix-rest limit stream bytes =
    let size = length (prefix_to_begin limit stream bytes) in
    ap (λ prefix. prefix ++ drop size bytes) (prefix-is limit stream bytes).prefix_is ∙ take-append-drop size bytes

-- A state has parsed what another had, and more of the bytes that were held there or given since.
-- The others are held, or left.
pub record Progresses {V W : Type 0} (state next : State V W) (bytes left : List ℕ) : Type 0 where
  pub more : List ℕ
  pub parsed_is : next.parsed ≡ state.parsed ++ more
  pub each_once : state.held ++ bytes ≡ more ++ (next.held ++ left)

-- No byte is lost: each is parsed, held or left.
pub all_bytes-grown : {V W : Type 0} {state next : State V W} {bytes left : List ℕ} → Progresses state next bytes left
    → all_bytes next ++ left ≡ all_bytes state ++ bytes
all_bytes-grown {state} {next} {bytes} {left} progress = search (rules, arith, append_assoc)

-- What one part of a call and the next do with bytes is what both do.
pub progresses-then : {V W : Type 0} {state reached next : State V W} {bytes rest left : List ℕ}
    → Progresses state reached bytes rest
    → Progresses reached next rest left → Progresses state next bytes left
progresses-then {state} {next} {left} progress further = search (rules, arith, append_assoc)

-- Bytes that follow those that were read are left.
pub progresses-before : {V W : Type 0} {state next : State V W} {bytes : List ℕ} → Progresses state next bytes []
    → (left : List ℕ)
    → Progresses state next (bytes ++ left) left
progresses-before {state} {next} {bytes} progress left = search (rules, arith, append-nil, append_assoc)

module _ {V W : Type 0} (meaning : Meaning V W) where
  progresses-nothing : {state : State V W} {bytes : List ℕ} → Progresses state state bytes bytes
  progresses-nothing {state} = search (rules, arith)

  progresses-stop : {state : State V W} {bytes : List ℕ} → Progresses state (stop meaning state) bytes bytes
  progresses-stop {state} = record { more = state.held; parsed_is = refl; each_once = refl }

  -- After `stop_if_due`, nothing is held.
  pub stop_if_due-holds_nothing : (pending : Bool) (state : State V W) → (stop_if_due meaning pending state).held ≡ []
  stop_if_due-holds_nothing pending state = search (rules, arith, nil_from_length)

  -- A stop, if one is due, parses held bytes and no given ones.
  pub progresses-stop_if_due : (pending : Bool) {state : State V W} {bytes : List ℕ}
      → Progresses state (stop_if_due meaning pending state) bytes bytes
  progresses-stop_if_due pending {state} = search (rules, arith)

  -- If nothing is held, the first of the given bytes are parsed.
  pub progresses-parse : {state : State V W} (prefix : List ℕ) {left bytes : List ℕ} → state.held ≡ []
      → prefix ++ left ≡ bytes
      → Progresses state (parse meaning state prefix) bytes left
  progresses-parse prefix none_held bytes_are = search (rules, arith)

  progresses-release : {state : State V W} {kept : List ℕ} → drop (length state.held - length kept) state.held ≡ kept
      → Progresses state (release meaning state kept) [] []
  progresses-release kept_is = search (rules, arith, append-nil, take-append-drop)

  progresses-hold : (state : State V W) (bytes : List ℕ) → Progresses state (hold_turn meaning state bytes) bytes []
  progresses-hold state bytes =
      let held : Progresses state (extend meaning state bytes) bytes [] =
      record {
        more = [];
        parsed_is = sym (append-nil state.parsed);
        each_once = sym (append-nil (state.held ++ bytes));
      } in
      elim (cases_Option (after_last_end (state.held ++ bytes))) [
        | inl no_end ↦ rw (hold_turn-all meaning state bytes no_end) held
        | inr last_end ↦
            rw (hold_turn-rest meaning state bytes last_end.1)
            (progresses-then held (progresses-release
            (rw last_end.1 at (stays-is (state.held ++ bytes)))))
      ]

  progresses-turn : (pending : Bool) (state : State V W) (bytes : List ℕ)
      → Progresses state (turn meaning pending state bytes).state bytes (turn meaning pending state bytes).rest
  progresses-turn pending state bytes = elim (cases_Bool (is_held pending state bytes)) [
    | inl held ↦ rw (turn-holds meaning pending state bytes held) (progresses-hold state bytes)
    | inr not_held ↦
        rw (turn-parses meaning pending state bytes not_held)
        (progresses-then (progresses-stop_if_due pending)
        (progresses-parse _ (stop_if_due-holds_nothing pending state)
        (prefix-rest meaning.limit (stop_if_due meaning pending state).parsed bytes)))
  ]

  -- By induction over the turns of a call.
  pub progresses-turns : {state next : State V W} {bytes left : List ℕ} → TakesTurns meaning state bytes next left
      → Progresses state next bytes left
  progresses-turns done = progresses-nothing
  progresses-turns {state} {next} {bytes = b ∷ bytes} {left} (turns pending allowed takes) =
      progresses-then (progresses-turn pending state (b ∷ bytes)) (progresses-turns takes)

  -- By induction over the calls, each of which leaves no byte.
  pub progresses-replay : (state next : State V W) (steps : List Step) → TakesSteps meaning state steps next
      → Progresses state next (given_bytes steps) []
  progresses-replay state next [] takes = rw takes progresses-nothing
  progresses-replay state next (Advance bytes ∷ steps) (reached, (advances, takes)) =
      progresses-then (progresses-before (progresses-turns advances) (given_bytes steps))
      (progresses-replay reached next steps takes)
  progresses-replay state next (StopSync ∷ steps) takes =
      progresses-then progresses-stop (progresses-replay (stop meaning state) next steps takes)

-- Turns of a call, of which the last may be refused memory: what is parsed and held then, and what the unread bytes do
-- in a further call. The refused turn leaves nothing held and is outside an update, so they do what they would have
-- done (`until_refused-goes_on`).
use Rattle.vte.proofs.Common.{ap, arith, between_turns, Bool, done, drop, drop-append-add, false, HasBeenRefused, HoldInvariantAt, inl, inside_turn, IsOutsideUpdate, IsSteady, length, length-append, List, Meaning, parsing_turn, ParsingTurn, ParsingTurnIsRefused, prefix_to_begin, refl, rules, State, subst, TakesAllTurns, TakesTurns, TakesTurnsUntilRefused, turn, turn_kind_of, turns, ℕ, [], ◌++◌, ◌<◌, ◌∙◌, ◌∷◌, ◌≡◌}
use Rattle.vte.proofs.lemmas.turns.EachOnce.{Progresses, progresses-parse, progresses-stop_if_due, progresses-then, progresses-turns, stop_if_due-holds_nothing}
use Rattle.vte.proofs.lemmas.turns.HoldFacts.{turns-invariant}
use Rattle.vte.proofs.lemmas.turns.Slices.{parse-append}
use Rattle.vte.proofs.lemmas.turns.TurnKinds.{ParsesUntilRefused, refused-parses, stop_if_due, turn-parses}
use Rattle.vte.proofs.lemmas.updates.Prefixes.{prefix-after}

-- ---- turns of a call, and one after them that is refused memory

-- A refusal before the first turn has read nothing.
pub refused-nothing : {V W : Type 0} (meaning : Meaning V W) {state : State V W} {bytes : List ℕ}
    {IsReached : State V W → Type 0} → IsReached state → HasBeenRefused meaning state bytes 0 IsReached
refused-nothing meaning {state} is_at = record { next = state; takes = between_turns done; is_at = is_at }

module _ {V W : Type 0} (meaning : Meaning V W) where
  -- One turn is a list of turns, if there are bytes.
  pub takes-one : {state : State V W} {bytes : List ℕ} (pending : Bool) → 0 < length bytes
      → meaning.timeout.allows state.timeout pending
      → TakesTurns meaning state bytes (turn meaning pending state bytes).state (turn meaning pending state bytes).rest
  takes-one {bytes = []} pending some_bytes allowed = absurd (omega arith)
  takes-one {bytes = b ∷ bytes} pending some_bytes allowed = turns pending allowed done

  -- Turns of some bytes, followed by turns of the rest, are turns of all.
  pub taken_on : (state reached next : State V W) (bytes left rest : List ℕ)
      → TakesTurns meaning state bytes reached left
      → TakesTurns meaning reached left next rest → TakesTurns meaning state bytes next rest
  taken_on state reached next bytes left rest done takes_rest = takes_rest
  taken_on state reached next (b ∷ bytes) left rest (turns pending allowed takes) takes_rest =
      turns pending allowed (taken_on _ reached next _ left rest takes takes_rest)

  -- Turns of some bytes, and turns of the rest up to a refusal, are turns of all up to it.
  pub until_refused-on : (state reached next : State V W) (bytes left rest : List ℕ)
      → TakesTurns meaning state bytes reached left
      → TakesTurnsUntilRefused meaning reached left next rest
      → TakesTurnsUntilRefused meaning state bytes next rest
  until_refused-on state reached next bytes left rest takes (between_turns takes_rest) =
      between_turns (taken_on state reached next bytes left rest takes takes_rest)
  until_refused-on state reached next bytes left rest takes (inside_turn takes_rest pending allowed refused) =
      inside_turn (taken_on state reached _ bytes left _ takes takes_rest) pending allowed refused

  -- If no bytes are left, no turn was refused memory.
  pub until_refused-all : {state next : State V W} {bytes : List ℕ} → TakesTurnsUntilRefused meaning state bytes next []
      → TakesTurns meaning state bytes next []
  until_refused-all takes = search (rules, arith)

  -- ---- what is parsed and held then

  progresses-refused : (pending : Bool) {state next : State V W} {bytes left : List ℕ}
      → ParsesUntilRefused meaning pending state bytes next left
      → Progresses state next bytes left
  progresses-refused pending {state} (not_held, refused) =
      rw refused.state_is
      (progresses-then (progresses-stop_if_due meaning pending)
      (progresses-parse meaning refused.prefix (stop_if_due-holds_nothing meaning pending state) refused.bytes_are))

  -- A refused turn, too, has parsed or left each of its bytes.
  pub progresses-until_refused : {state next : State V W} {bytes left : List ℕ}
      → TakesTurnsUntilRefused meaning state bytes next left
      → Progresses state next bytes left
  progresses-until_refused (between_turns takes) = progresses-turns meaning takes
  progresses-until_refused {next} {left} (inside_turn {reached} {rest} takes pending allowed refused) =
      progresses-then (progresses-turns meaning takes)
      (progresses-refused pending (refused-parses meaning pending reached next rest left refused))

  -- After a parsing turn that was refused memory, no update is pending, and nothing is held.
  refused-outside : (pending : Bool) (state next : State V W) (bytes left : List ℕ) → IsSteady meaning.timeout
      → HoldInvariantAt meaning state
      → meaning.timeout.allows state.timeout pending
      → ParsesUntilRefused meaning pending state bytes next left
      → IsOutsideUpdate meaning.timeout next.held next.timeout
  refused-outside pending state next bytes left steady hold_invariant allowed (not_held, refused) =
      search (rules, arith)

  refused-held : (pending : Bool) (state next : State V W) (bytes left : List ℕ)
      → ParsesUntilRefused meaning pending state bytes next left → next.held ≡ []
  refused-held pending state next bytes left (not_held, refused) =
      ap (λ next. next.held) refused.state_is ∙ stop_if_due-holds_nothing meaning pending state

  -- The hold's invariant is true after a refusal, as a refused turn holds nothing.
  pub until_refused-invariant : {state next : State V W} {bytes left : List ℕ}
      → TakesTurnsUntilRefused meaning state bytes next left
      → HoldInvariantAt meaning state
      → HoldInvariantAt meaning next
  until_refused-invariant (between_turns takes) hold_invariant = turns-invariant meaning takes hold_invariant
  until_refused-invariant {next} {left} (inside_turn {reached} {rest} takes pending allowed refused) hold_invariant =
      let parses_until = refused-parses meaning pending reached next rest left refused in
      let none_held = refused-held pending reached next rest left parses_until in
      record {
        no_end = rw none_held refl;
        fits = rw none_held (omega arith);
        steady =
            λ steady.
            inl (refused-outside pending reached next rest left steady (turns-invariant meaning takes hold_invariant)
            allowed
            parses_until);
      }

  -- ---- the unread bytes in a further call

  parsing_turn-goes_on : (state next : State V W) (bytes left : List ℕ)
      → ParsingTurnIsRefused meaning state bytes next left
      → parsing_turn meaning next left ≡ parsing_turn meaning state bytes
  parsing_turn-goes_on state next bytes left refused =
      let prefix = prefix_to_begin meaning.limit (state.parsed ++ refused.prefix) left in
      rw (
        refused.state_is,
        ← refused.bytes_are,
        prefix-after meaning.limit state.parsed refused.prefix left refused.none_begin,
        length-append,
        drop-append-add refused.prefix left (length prefix),
      )
      (ap (λ next. record { state = next; rest = drop (length prefix) left })
      (parse-append meaning state refused.prefix prefix))

  refused-goes_on : (pending : Bool) (state next : State V W) (bytes left : List ℕ)
      → ParsesUntilRefused meaning pending state bytes next left
      → turn meaning false next left ≡ turn meaning pending state bytes
  refused-goes_on pending state next bytes left (not_held, refused) =
      let kind_is : turn_kind_of false (length next.held) (length left) ≡ ParsingTurn =
      rw (refused-held pending state next bytes left (not_held, refused)) refl in
      rw (kind_is, turn-parses meaning pending state bytes not_held)
      (parsing_turn-goes_on (stop_if_due meaning pending state) next bytes left refused)

  refused-turn_goes_on : (pending : Bool) {state next end : State V W} {bytes left : List ℕ}
      → meaning.timeout.allows state.timeout pending
      → ParsesUntilRefused meaning pending state bytes next left
      → IsOutsideUpdate meaning.timeout next.held next.timeout → TakesTurns meaning next left end []
      → TakesTurns meaning state bytes end []
  refused-turn_goes_on pending allowed refused outside done = absurd (omega (arith, refused.1.some_left))
  refused-turn_goes_on pending {state} {next} {end} {bytes} {left = b ∷ left} allowed refused outside
      (turns other allows takes) =
      let same_turn : turn meaning other next (b ∷ left) ≡ turn meaning pending state bytes =
      rw (outside.not_pending.1 other allows) (refused-goes_on pending state next bytes (b ∷ left) refused) in
      let some_bytes : 0 < length bytes =
      omega (arith, refused.1.some_left, ap length refused.1.bytes_are, length-append refused.1.prefix (b ∷ left)) in
      taken_on state _ end bytes _ [] (takes-one pending some_bytes allowed)
      (subst (λ result. TakesTurns meaning result.state result.rest end []) same_turn takes)

  -- With a steady timeout, a further call finishes the turn that was refused memory.
  pub until_refused-goes_on : (state next end : State V W) (bytes left : List ℕ) → IsSteady meaning.timeout
      → HoldInvariantAt meaning state
      → TakesTurnsUntilRefused meaning state bytes next left → TakesAllTurns meaning next left end
      → TakesAllTurns meaning state bytes end
  until_refused-goes_on state next end bytes left steady hold_invariant (between_turns takes) takes_rest =
      taken_on state next end bytes left [] takes takes_rest
  until_refused-goes_on state next end bytes left steady hold_invariant
      (inside_turn {reached} {rest} takes pending allowed refused) takes_rest =
      let parses_until = refused-parses meaning pending reached next rest left refused in
      let outside =
      refused-outside pending reached next rest left steady (turns-invariant meaning takes hold_invariant) allowed
      parses_until in
      taken_on state reached end bytes rest [] takes
      (refused-turn_goes_on pending allowed parses_until outside takes_rest)

-- What the handler receives by a list of calls, first by what is done in a state, then by the rest of the list
-- (`delivers-replay`). By induction over the list: the calls before a stop are those of the bytes up to it, and
-- positions of later stops only grow.
use Rattle.vte.proofs.Common.{added_calls, Advance, after, after_last_end, ap, append-nil, append_assoc, AreInOrder, arith, between_turns, Bool, calls, calls_after, calls_between, calls_with_stops, cases_Bool, done, drop_all, events, extend, from_begin_update, hold_turn, inl, inr, inside_turn, length, length-append, List, Meaning, Option, parsing_turn, prefix_to_begin, refl, release, State, Step, stop, StopSync, subst, sym, take, take-append-add, take-append_seam, take_all, TakesSteps, TakesTurns, TakesTurnsUntilRefused, turn, turns, ℕ, [], ◌++◌, ◌+◌, ◌-◌, ◌∙◌, ◌∷◌, ◌≡◌, ◌≤◌}
use Rattle.vte.proofs.lemmas.events.EventCalls.{added_calls-append, after_calls-append}
use Rattle.vte.proofs.lemmas.turns.TurnKinds.{hold_turn-all, hold_turn-rest, is_held, is_stopped, refused-parses, stop_if_due, turn-holds, turn-parses}
use Rattle.vte.proofs.lemmas.updates.Sequences.{cases_Option}

-- ---- the calls between two positions: those of a prefix, then those of the rest

calls_between-none : (limit : Option ℕ) (stream : List ℕ) (position : ℕ)
    → calls_between limit stream position position ≡ []
calls_between-none limit stream position =
    let seen = calls (events limit (take position stream)) in drop_all (length seen) seen (omega arith)

in_order-sooner : (parsed prefix positions : List ℕ) (to : ℕ) → AreInOrder (length (parsed ++ prefix)) positions to
    → AreInOrder (length parsed) positions to
in_order-sooner parsed prefix [] to order = omega (arith, order, length-append parsed prefix)
in_order-sooner parsed prefix (position ∷ positions) to (from, order) =
    (omega (arith, from, length-append parsed prefix), order)

-- A prefix is parsed, and then the rest.
module _ (limit : Option ℕ) (parsed prefix : List ℕ) where
  -- What was parsed before, and the prefix.
  abbrev both : List ℕ
  both = parsed ++ prefix

  calls_between-append : (rest : List ℕ) (position : ℕ) → length both ≤ position
      → calls_between limit (both ++ rest) (length parsed) position
      ≡ added_calls limit parsed prefix ++ calls_between limit (both ++ rest) (length both) position
  calls_between-append rest position from =
      let past = position - length both in
      let position_is : position ≡ length both + past = omega (arith, from) in
      let first : take (length parsed) (both ++ rest) ≡ parsed =
      ap (take (length parsed)) (append_assoc parsed prefix rest) ∙ take-append_seam parsed (prefix ++ rest) in
      let further = take past rest in
      rw (position_is, first, take-append-add both rest past, take-append_seam both rest)
      (ap (λ all. calls_after (events limit parsed) (events limit all)) (append_assoc parsed prefix further)
      ∙ added_calls-append limit parsed prefix further)

  -- If nothing follows the prefix, the calls are those that it adds.
  pub calls_between-whole : calls_between limit both (length parsed) (length both) ≡ added_calls limit parsed prefix
  calls_between-whole = rw (take-append_seam parsed prefix, take_all (length both) both (omega arith)) refl

  -- If the first stop comes after the prefix, the calls of the prefix come before all others.
  calls_with_stops-later : (rest positions : List ℕ) {all : List ℕ} → all ≡ both ++ rest
      → AreInOrder (length both) positions (length all)
      → calls_with_stops limit all (length parsed) positions
      ≡ added_calls limit parsed prefix ++ calls_with_stops limit all (length both) positions
  calls_with_stops-later rest [] all_is from = rw all_is (calls_between-append rest _ (rw all_is at from))
  calls_with_stops-later rest (position ∷ positions) all_is (from, order) =
      rw (all_is, calls_between-append rest position from) (append_assoc (added_calls limit parsed prefix) _ _)

-- ---- from a state to the end of a list of calls

-- `delivers-X`: what the handler receives from the state after X on, it receives from the state before on, after the
-- calls of X.

module _ {V W : Type 0} (meaning : Meaning V W) (end : State V W) where
  -- What the handler still receives if bytes were parsed, with these stops, and its value is this.
  pub record HasStillToDeliver (parsed stops : List ℕ) (value : V) : Type 0 where
    pub more : List ℕ
    pub parsed_is : end.parsed ≡ parsed ++ more
    pub positions : List ℕ
    pub stops_are : end.stops ≡ stops ++ positions
    pub in_order : AreInOrder (length parsed) positions (length end.parsed)
    pub handler_is : end.handler
        ≡ after meaning.step value (calls_with_stops meaning.limit end.parsed (length parsed) positions)

  -- What the handler still receives from this state on.
  abbrev DeliversAt : State V W → Type 0
  DeliversAt state = HasStillToDeliver state.parsed state.stops state.handler

  delivers-nothing : DeliversAt end
  delivers-nothing = record {
    more = [];
    parsed_is = sym (append-nil end.parsed);
    positions = [];
    stops_are = sym (append-nil end.stops);
    in_order = omega arith;
    handler_is = rw calls_between-none refl;
  }

  delivers-parse : {parsed : List ℕ} (prefix : List ℕ) {stops : List ℕ} {value : V}
      → HasStillToDeliver (parsed ++ prefix) stops (after meaning.step value (added_calls meaning.limit parsed prefix))
      → HasStillToDeliver parsed stops value
  delivers-parse {parsed} prefix rest = record {
    more = prefix ++ rest.more;
    parsed_is = rest.parsed_is ∙ append_assoc parsed prefix rest.more;
    positions = rest.positions;
    stops_are = rest.stops_are;
    in_order = in_order-sooner parsed prefix rest.positions _ rest.in_order;
    handler_is =
        rw (
          calls_with_stops-later meaning.limit parsed prefix rest.more rest.positions rest.parsed_is rest.in_order,
          after_calls-append,
        ) rest.handler_is;
  }

  delivers-stop : (state : State V W) → DeliversAt (stop meaning state) → DeliversAt state
  delivers-stop state rest =
      let position = length (state.parsed ++ state.held) in
      delivers-parse state.held (record {
        more = rest.more;
        parsed_is = rest.parsed_is;
        positions = position ∷ rest.positions;
        stops_are = rest.stops_are ∙ append_assoc state.stops (position ∷ []) rest.positions;
        in_order = (omega arith, rest.in_order);
        handler_is = rw calls_between-none rest.handler_is;
      })

  delivers-parsing : (state : State V W) (bytes : List ℕ) → DeliversAt (parsing_turn meaning state bytes).state
      → DeliversAt state
  delivers-parsing state bytes = delivers-parse (prefix_to_begin meaning.limit state.parsed bytes)

  delivers-release : (state : State V W) (kept : List ℕ) → DeliversAt (release meaning state kept) → DeliversAt state
  delivers-release state [] = delivers-stop state
  delivers-release state (byte ∷ kept) = delivers-parse _

  delivers-hold : (state : State V W) (bytes : List ℕ) → DeliversAt (hold_turn meaning state bytes) → DeliversAt state
  delivers-hold state bytes = elim (cases_Option (after_last_end (state.held ++ bytes))) [
    | inl no_end ↦ rw (hold_turn-all meaning state bytes no_end) (λ rest. rest)
    | inr last_end ↦
        rw (hold_turn-rest meaning state bytes last_end.1)
        (delivers-release (extend meaning state bytes) (from_begin_update last_end.0))
  ]

  delivers-due : (pending : Bool) (state : State V W) → DeliversAt (stop_if_due meaning pending state)
      → DeliversAt state
  delivers-due pending state = elim (cases_Bool (is_stopped pending state)) [
    | inl stopped ↦ rw stopped (delivers-stop state)
    | inr not_stopped ↦ rw not_stopped (λ rest. rest)
  ]

  delivers-turn : (pending : Bool) (state : State V W) (bytes : List ℕ)
      → DeliversAt (turn meaning pending state bytes).state
      → DeliversAt state
  delivers-turn pending state bytes = elim (cases_Bool (is_held pending state bytes)) [
    | inl held ↦ rw (turn-holds meaning pending state bytes held) (delivers-hold state bytes)
    | inr not_held ↦
        rw (turn-parses meaning pending state bytes not_held)
        (λ rest. delivers-due pending state (delivers-parsing (stop_if_due meaning pending state) bytes rest))
  ]

  delivers-turns : (state next : State V W) (bytes left : List ℕ) → TakesTurns meaning state bytes next left
      → DeliversAt next
      → DeliversAt state
  delivers-turns state next bytes left done rest = rest
  delivers-turns state next (byte ∷ bytes) left (turns pending allowed takes) rest =
      delivers-turn pending state (byte ∷ bytes) (delivers-turns _ next _ left takes rest)

  delivers-steps : (state next : State V W) (steps : List Step) → TakesSteps meaning state steps next → DeliversAt next
      → DeliversAt state
  delivers-steps state next [] same = rw same (λ rest. rest)
  delivers-steps state next (Advance bytes ∷ steps) (reached, (advances, takes)) =
      λ rest. delivers-turns state reached bytes.now [] advances (delivers-steps reached next steps takes rest)
  delivers-steps state next (StopSync ∷ steps) takes =
      λ rest. delivers-stop state (delivers-steps (stop meaning state) next steps takes rest)

  -- A list of calls tells the handler the calls of all bytes that it parses, and its stops.
  pub delivers-replay : (state : State V W) (steps : List Step) → TakesSteps meaning state steps end → DeliversAt state
  delivers-replay state steps takes = delivers-steps state end steps takes delivers-nothing

  -- `DeliversAt` also holds if the last call was refused memory.
  pub delivers-refused : (state reached : State V W) (steps : List Step) (bytes left : List ℕ)
      → TakesSteps meaning state steps reached → TakesTurnsUntilRefused meaning reached bytes end left
      → DeliversAt state
  delivers-refused state reached steps bytes left takes (between_turns takes_left) =
      delivers-steps state reached steps takes (delivers-turns reached end bytes left takes_left delivers-nothing)
  delivers-refused state reached steps bytes left takes
      (inside_turn {reached = before} {rest} takes_left pending _ refused) =
      let parsed = (refused-parses meaning pending before end rest left refused).1 in
      delivers-steps state reached steps takes
      (delivers-turns reached before bytes rest takes_left
      (delivers-due pending before
      (delivers-parse parsed.prefix (subst (λ state. DeliversAt state) parsed.state_is delivers-nothing))))

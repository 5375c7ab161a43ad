-- A performer's value after the events of bytes. The handler and the state that it was lent come back as they are
-- after the bytes, and an early stop reads the prefix up to the begin of an update.
use Rattle.vte.proofs.Common.{added, after, All, All-head, All-tail, ap, arith, begin_count, begin_count_in_event, Bool, calls_from, calls_of, cases_lt, engine_view, Event, events, events_grow, false, false≢true, FitsText, inl, inr, KeepsMemory, last_printed, last_printed_after, last_printed_from, length, List, Meaning, nat_lt, nat_tests, or-false, parse, ParserView, PartsAreAt, PartsReach, performer_value, performer_with_event, PerformerValue, prefix_to_begin, ProcessorState, refl, reported-settled, reported_before, resumed_stream, resumed_stream-settled, starts-settled, State, StopsExactly, sym, take, timeout_set_times, ℕ, [], ◌++◌, ◌+◌, ◌<◌, ◌||◌, ◌∙◌, ◌∷◌, ◌≡◌}
use Rattle.vte.proofs.lemmas.events.EventCalls.{added_calls-events, after_calls-append, last_printed-append, timeout_set_times-add}
use Rattle.vte.proofs.lemmas.updates.Prefixes.{begin_count-reported, breaks_at-prefix, IsPrefix, open_character-prefix, prefix-is}
use Rattle.vte.specs.declared.ansi.calls.performer.Performer.{Performer}
use Rattle.vte_core.specs.Event.{after as performed}

-- ---- the value after events

-- One by one, events make of a value what `with_events` says of all of them, if they fit the text.

any-sum : (b : Bool) (m n : ℕ) → ((b || nat_lt 0 m) || nat_lt 0 n) ≡ (b || nat_lt 0 (m + n))
any-sum b m n = grind (arith, nat_tests)

-- What all events together make of a performer's value.
abbrev with_events : {V W : Type 0} → Meaning V W → PerformerValue V W → List Event → PerformerValue V W
with_events m performer events = record {
  handler = after m.step performer.handler (calls_from performer.last events);
  timeout = timeout_set_times m.timeout (begin_count events) performer.timeout;
  last = last_printed_from performer.last events;
  text_capacity = performer.text_capacity;
  terminated = performer.terminated || nat_lt 0 (begin_count events);
  state_name = performer.state_name;
  handler_name = performer.handler_name;
}

performed-events : {V W : Type 0} (m : Meaning V W) (performer : PerformerValue V W) (events : List Event)
    → All (FitsText performer.text_capacity) events
    → performed (performer_with_event m.step m.timeout) performer events ≡ with_events m performer events
performed-events m performer [] fits = rw or-false
performed-events m performer (event ∷ events) fits =
    performed-events m (performer_with_event m.step m.timeout performer event) events
    (All-tail (FitsText performer.text_capacity) event events fits)
    ∙ rw (
      All-head (FitsText performer.text_capacity) event events fits performer.last,
      ← after_calls-append m.step performer.handler (calls_of performer.last event)
          (calls_from (last_printed_after performer.last event) events),
      ← timeout_set_times-add m.timeout performer.timeout (begin_count_in_event event) (begin_count events),
      any-sum performer.terminated (begin_count_in_event event) (begin_count events),
    ) refl

-- ---- the performer gives back what it was lent

-- What comes back has the value of `with_events`, so the parts are at the state after `parse`.

module _ {H T B G V W : Type 0} (handler_of : H → V) (timeout_of : T → W) (text_capacity_of : B → ℕ) (m : Meaning V W)
    (start : State V W) (bytes : List ℕ)
    (old : PerformerValue V W) (new : Performer H T B G) {state : ProcessorState T B}
    (fits : All (FitsText old.text_capacity) (added m.limit start.parsed bytes))
    (performs : performer_value handler_of timeout_of text_capacity_of new
    ≡ performed (performer_with_event m.step m.timeout) old (added m.limit start.parsed bytes))
    (back_state : old.state_name ≡ new.state.ghost_name → state ≡ new.state.now) where
  value_is : performer_value handler_of timeout_of text_capacity_of new
      ≡ with_events m old (added m.limit start.parsed bytes)
  value_is = performs ∙ performed-events m old (added m.limit start.parsed bytes) fits

  state-is : state ≡ new.state.now
  state-is = back_state (sym (ap (λ performer. performer.state_name) value_is))

  -- The text has the same size as before.
  pub text_capacity_back : text_capacity_of state.text ≡ old.text_capacity
  text_capacity_back = rw state-is (ap (λ performer. performer.text_capacity) value_is)

  -- What was lent comes back as `parse` leaves it, with the memory that was there.
  pub performer-given_back : {P : Type 0} {view : ParserView P} {parser next : P}
      {processor_state : ProcessorState T B} {value : V} {handler : H}
      → PartsAreAt (engine_view m.limit view text_capacity_of timeout_of) parser processor_state value start
      → old.last ≡ processor_state.last_printed → old.timeout ≡ timeout_of processor_state.timeout
      → old.handler ≡ value
      → old.text_capacity ≡ text_capacity_of processor_state.text
      → view.has_read next (start.parsed ++ bytes)
      → (old.handler_name ≡ new.handler.ghost_name → handler ≡ new.handler.now)
      → ((size : ℕ) → KeepsMemory (view.has_memory parser size) (view.has_memory next size))
      → PartsReach (engine_view m.limit view text_capacity_of timeout_of) parser processor_state next state
      (handler_of handler)
      (parse m start bytes)
  performer-given_back {processor_state} parts_at lent_last lent_timeout lent_handler lent_text_capacity has_read
      back_handler keeps_memory =
      -- The handler that comes back is the one that was lent.
      let handler_back = back_handler (sym (ap (λ performer. performer.handler_name) value_is)) in
      -- Before the bytes, the performer had the values of the state `start`.
      let last_is : old.last ≡ last_printed (events m.limit start.parsed) = lent_last ∙ parts_at.last in
      let timeout_is : old.timeout ≡ start.timeout = lent_timeout ∙ parts_at.timeout_is in
      let handler_is : old.handler ≡ start.handler = lent_handler ∙ parts_at.handler_is in
      -- After the bytes, it has those of `with_events`, which are the values of `parse m start bytes`.
      record {
        parts_at = record {
          has_read = has_read;
          last =
              rw (state-is, events_grow m.limit start.parsed bytes, last_printed-append, ← last_is)
              (ap (λ performer. performer.last) value_is);
          timeout_is = rw (state-is, ← timeout_is) (ap (λ performer. performer.timeout) value_is);
          handler_is =
              rw (handler_back, added_calls-events m.limit start.parsed bytes, ← last_is, ← handler_is)
              (ap (λ performer. performer.handler) value_is);
        };
        keeps_memory =
            rw (text_capacity_back, lent_text_capacity) (keeps_memory (text_capacity_of processor_state.text));
      }

-- ---- an early stop reads the prefix

-- An update that begins terminates the performer, so the call stops at the end of the shortest prefix that begins one.

terminated_by : {V W : Type 0} (m : Meaning V W) (performer : PerformerValue V W) (events : List Event)
    → (performed (performer_with_event m.step m.timeout) performer events).terminated
    ≡ (performer.terminated || nat_lt 0 (begin_count events))
terminated_by m performer [] = sym (or-false performer.terminated)
terminated_by m performer (event ∷ events) =
    terminated_by m (performer_with_event m.step m.timeout performer event) events
    ∙ any-sum performer.terminated (begin_count_in_event event) (begin_count events)

module _ {V W : Type 0} (m : Meaning V W) {old new : PerformerValue V W} (goes_on : old.terminated ≡ false)
    {stream bytes : List ℕ} {read : ℕ}
    (stop : StopsExactly (performer_with_event m.step m.timeout) (λ performer. performer.terminated) old m.limit stream
    bytes new read) where
  is_prefix : IsPrefix m.limit stream bytes (length (prefix_to_begin m.limit stream bytes))
  is_prefix = prefix-is m.limit stream bytes

  -- Before position i, the performer is terminated exactly if an update begins in the first i bytes.
  terminated_at : (i : ℕ)
      → (performed (performer_with_event m.step m.timeout) old (reported_before m.limit stream bytes i)).terminated
      ≡ nat_lt 0 (begin_count (added m.limit stream (take i bytes)))
  terminated_at i =
      terminated_by m old (reported_before m.limit stream bytes i)
      ∙ rw (goes_on, begin_count-reported m.limit stream bytes i)

  -- The call doesn't stop before the end of the prefix.
  size-not_before : read < length (prefix_to_begin m.limit stream bytes) → ⊥
  size-not_before stops_before =
      -- Bytes are left after a stop at `read`, so the performer is terminated there.
      let terminated = stop.stops (omega (arith, is_prefix.within)) in
      -- But in the first `read` bytes no update begins.
      let not_terminated =
      rw (stop.comes.performed, terminated_at read, is_prefix.none_before read stops_before) at terminated in
      false≢true not_terminated

  -- The call doesn't stop after the end of the prefix.
  size-not_after : length (prefix_to_begin m.limit stream bytes) < read → ⊥
  size-not_after stops_after =
      let size = length (prefix_to_begin m.limit stream bytes) in
      -- The end of the prefix is a start, as no character is open there.
      let within : size < length bytes = omega (arith, stop.comes.within) in
      -- A call that stops later wasn't terminated there.
      let not_terminated =
      rw (terminated_at size) at (stop.comes.earlier size stops_after
      (starts-settled within (open_character-prefix is_prefix within))) in
      -- But in the prefix an update begins.
      grind (arith, nat_tests, is_prefix.begins within)

  -- An early stop is neither before nor after the end of the prefix that begins an update.
  pub stops_at_prefix : read ≡ length (prefix_to_begin m.limit stream bytes)
  stops_at_prefix = elim (cases_lt read (length (prefix_to_begin m.limit stream bytes))) [
    | inl stops_before ↦ absurd (size-not_before stops_before)
    | inr at_least ↦ elim (cases_lt (length (prefix_to_begin m.limit stream bytes)) read) [
      | inl stops_after ↦ absurd (size-not_after stops_after)
      | inr most ↦ omega arith
    ]
  ]

  -- So exactly the events of the prefix are performed.
  pub stop_performs : new
      ≡ performed (performer_with_event m.step m.timeout) old
      (added m.limit stream (prefix_to_begin m.limit stream bytes))
  stop_performs =
      -- After the prefix no character is broken, so what is reported before its end is what the prefix adds.
      rw (
        is_prefix.prefix_is,
        ← stops_at_prefix,
        ← reported-settled m.limit stream bytes read (rw stops_at_prefix (breaks_at-prefix is_prefix)),
      ) stop.comes.performed

  -- The performer is terminated if and only if an update begins in the prefix.
  pub stop_terminated : new.terminated
      ≡ nat_lt 0 (begin_count (added m.limit stream (prefix_to_begin m.limit stream bytes)))
  stop_terminated =
      ap (λ performer. performer.terminated) stop_performs
      ∙ terminated_by m old (added m.limit stream (prefix_to_begin m.limit stream bytes)) ∙ rw goes_on

  -- The parser goes on from the prefix.
  pub stop_stream : resumed_stream stream bytes read ≡ stream ++ prefix_to_begin m.limit stream bytes
  stop_stream =
      rw (is_prefix.prefix_is, ← stops_at_prefix)
      (resumed_stream-settled stream bytes read (rw stops_at_prefix (breaks_at-prefix is_prefix)))

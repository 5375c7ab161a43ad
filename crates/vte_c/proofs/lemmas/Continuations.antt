-- A parser that read a part of a call goes on as one that has read another stream (`Continues`), and so it does after
-- the next part: what the parts add is joined.
use Rattle.std.proofs.lemmas.List.Folds.{list_any-append}
use Rattle.std.specs.List.{list_any}
use Rattle.vte_c.proofs.Common.{add-one, add_assoc, added, any_of_kinds, ap, append-nil, append_assoc, arith, Bool, breaks, breaks_at, cases_Bool, chars, contains_kind, Continues, DataRun, default_limit, drop, drop-drop, Entry, entry_data, entry_events, Event, event_kind, events_of_run, false, flat_map, get_or, GoesOnFromPositions, if◌then◌else◌, InInput, inl, InputRunKind, inr, is_stop, IsPrefix, IsStart, kinds_of, length, length-drop, List, map, NoEventStops, NoRecordStops, open_character, OpensSilently, or_parts, Print, Put, records_from, refl, replacement, reported_before, resumed_stream, run_kind, Single, suc, sym, take, take-add, take-append-drop, take_more, TextRun, true, VteEvent, wanted_events, zero, zero-add, ℕ, [], ◌++◌, ◌+◌, ◌-◌, ◌<◌, ◌∙◌, ◌∷◌, ◌≡◌, ◌≤◌}
use Rattle.vte_core.proofs.lemmas.shapes.BrokenCharacters.{breaks-next}
use Rattle.vte_core.proofs.lemmas.streams.After.{added-nothing}
use Rattle.vte_core.proofs.lemmas.streams.EarlyStops.{added-append}

-- ---- some events are the first of others (`IsPrefix`)

prefix-same : {events all : List Event} → all ≡ events → IsPrefix events all
prefix-same {events} same = record { others = []; parts = same ∙ sym (append-nil events) }

prefix-then : {front events all : List Event} → IsPrefix front events → IsPrefix events all → IsPrefix front all
prefix-then {front} first later = record {
  others = first.others ++ later.others;
  parts =
      later.parts ∙ ap (λ (events : List Event). events ++ later.others) first.parts
      ∙ append_assoc front first.others later.others;
}

prefix-after : {events all : List Event} (before : List Event) → IsPrefix events all
    → IsPrefix (before ++ events) (before ++ all)
prefix-after {events} before first = record {
  others = first.others;
  parts = ap (λ (events : List Event). before ++ events) first.parts ∙ sym (append_assoc before events first.others);
}

-- ---- one part after another

-- Nothing was read or given at first.
pub continues-nothing : (already_read bytes : List ℕ) → Continues already_read already_read bytes 0 []
continues-nothing already_read bytes = record {
  added_parts = λ more. refl;
  prefixes =
      λ k within. prefix-same (rw zero-add refl);
}

-- Two parts of the bytes, one after another, give the events of both.
pub continues-then : {already_read next last bytes : List ℕ} {n m : ℕ} {given given_next : List Event}
    → Continues already_read next bytes n given → Continues next last (drop n bytes) m given_next
    → n ≤ length bytes → Continues already_read last bytes (n + m) (given ++ given_next)
continues-then {bytes} {n} {m} {given} {given_next} continues continues_on within = record {
  added_parts =
      λ unread.
      rw (append_assoc given, ← drop-drop m n bytes, continues.added_parts unread, continues_on.added_parts unread)
      refl;
  prefixes = λ k below.
      rw (append_assoc given, ← drop-drop m n bytes, add_assoc n m k)
      (prefix-then (continues.prefixes (m + k) (omega arith))
      (prefix-after given (continues_on.prefixes k (omega (arith, length-drop n bytes)))));
}

-- ---- bytes that report what they add

-- A part that was read as it is gives what it adds.
pub continues-added : (already_read bytes : List ℕ) (n : ℕ)
    → Continues already_read (already_read ++ take n bytes) bytes n (added default_limit already_read (take n bytes))
continues-added already_read bytes n = record {
  added_parts = λ more.
      let parts = added-append default_limit already_read (take n bytes) (drop n bytes ++ more) in
      rw (← parts, ← append_assoc (take n bytes), take-append-drop) refl;
  prefixes = λ k within. prefix-same (rw (take-add n k bytes, added-append) refl);
}

-- ---- a call of the parser

-- A call that stops before that byte has given U+FFFD, which no byte has added so far.
broken-prefix : GoesOnFromPositions default_limit → (stream unread : List ℕ) (k : ℕ)
    → breaks (open_character stream) unread ≡ true
    → IsPrefix (added default_limit stream (take k unread)) (Print replacement ∷ added default_limit [] (take k unread))
unfolding reported_before resumed_stream breaks_at
broken-prefix goes_on stream unread zero broken =
    record {
      others = Print replacement ∷ added default_limit [] [];
      parts =
          rw (added-nothing default_limit stream) refl;
    }
broken-prefix goes_on stream [] (suc k) broken =
    record {
      others = Print replacement ∷ added default_limit [] [];
      parts =
          rw (added-nothing default_limit stream) refl;
    }
broken-prefix goes_on stream (byte ∷ unread) (suc k) broken =
    let front : List ℕ = byte ∷ take k unread in
    let breaks_it : breaks_at stream front 0 ≡ true =
    rw (append-nil stream) (breaks-next (open_character stream) byte (take k unread) unread ∙ broken) in
    prefix-same
    (sym
    (rw (append-nil front, reported_before, resumed_stream, breaks_it, added-nothing default_limit stream) at
    (goes_on stream front [] 0)))

-- A call gives what is reported before its position, and goes on from the stream that it resumes.
pub continues-call : GoesOnFromPositions default_limit → (already_read bytes : List ℕ) (n : ℕ)
    → Continues already_read (resumed_stream already_read bytes n) bytes n
    (reported_before default_limit already_read bytes n)
unfolding reported_before resumed_stream breaks_at
continues-call goes_on already_read bytes n = elim (cases_Bool (breaks_at already_read bytes n)) [
  | inl broken ↦ rw broken (record {
    added_parts = λ more. rw broken at (goes_on already_read bytes more n);
    prefixes = λ k within.
        rw (take-add n k bytes, added-append, append_assoc (added default_limit already_read (take n bytes)))
        (prefix-after (added default_limit already_read (take n bytes))
        (broken-prefix goes_on (already_read ++ take n bytes) (drop n bytes) k broken));
  })
  | inr unbroken ↦ rw (unbroken, append-nil (added default_limit already_read (take n bytes)))
      (continues-added already_read bytes n)
]

-- ---- records of kinds that do not stop

-- If no record is of the kinds, none stops.
pub no_kind_stops-none : (stop_kinds : ℕ) (records : List VteEvent) → any_of_kinds stop_kinds records ≡ false
    → NoRecordStops stop_kinds records
no_kind_stops-none stop_kinds [] none_of_kinds = refl
no_kind_stops-none stop_kinds (vte_record ∷ records) none_of_kinds =
    let apart = or_parts (contains_kind stop_kinds vte_record.kind) (any_of_kinds stop_kinds records) none_of_kinds in
    rw apart.0 (no_kind_stops-none stop_kinds records apart.1)

-- If none stops in either of two lists, of kinds or events, none stops in both together.
pub none_stops-append : {A : Type 0} (does_stop : A → Bool) (front back : List A) → list_any does_stop front ≡ false
    → list_any does_stop back ≡ false → list_any does_stop (front ++ back) ≡ false
none_stops-append does_stop front back none_stops none_after =
    rw (list_any-append does_stop front back, none_stops) none_after

-- ---- events that do not stop (`NoEventStops`): of lists, runs and entries, and of fewer bytes

-- If none stops in a list, none stops at its front.
pub no_event_stops-front : (does_stop : ℕ → Bool) (front back : List Event) → NoEventStops does_stop (front ++ back)
    → NoEventStops does_stop front
no_event_stops-front does_stop front back none_stops =
    let stops : Event → Bool = λ event. does_stop (event_kind event) in
    (or_parts (list_any stops front) (list_any stops back) (rw (list_any-append stops front back) at none_stops)).0

no_event_stops-each : (does_stop : ℕ → Bool) (event_of : ℕ → Event)
    → ((n : ℕ) → does_stop (event_kind (event_of n)) ≡ false)
    → (ns : List ℕ) → NoEventStops does_stop (map event_of ns)
no_event_stops-each does_stop event_of no_stop [] = refl
no_event_stops-each does_stop event_of no_stop (n ∷ ns) =
    rw (no_stop n) (no_event_stops-each does_stop event_of no_stop ns)

-- All events of a run have its kind.
pub no_event_stops-run : (does_stop : ℕ → Bool) (run : InputRunKind) (bytes : List ℕ) → does_stop (run_kind run) ≡ false
    → NoEventStops does_stop (events_of_run run bytes)
no_event_stops-run does_stop TextRun bytes no_stop = no_event_stops-each does_stop Print (λ c. no_stop) (chars bytes)
no_event_stops-run does_stop DataRun bytes no_stop = no_event_stops-each does_stop Put (λ b. no_stop) bytes

-- The events of records that don't stop don't stop either.
pub no_event_stops-entries : (stop_kinds : ℕ) (input : List ℕ) (place : ℕ) (entries : List Entry)
    → NoRecordStops stop_kinds (records_from place entries)
    → NoEventStops (contains_kind stop_kinds) (flat_map (entry_events input) entries)
no_event_stops-entries stop_kinds input place [] none_stops = refl
no_event_stops-entries stop_kinds input place (Single event ∷ entries) none_stops =
    let next : ℕ = place + length (entry_data (Single event)) in
    let apart =
    or_parts (contains_kind stop_kinds (event_kind event))
    (list_any (contains_kind stop_kinds) (kinds_of (records_from next entries))) none_stops in
    rw apart.0 (no_event_stops-entries stop_kinds input next entries apart.1)
no_event_stops-entries stop_kinds input place (InInput run start size ∷ entries) none_stops =
    let bytes : List ℕ = take size (drop start input) in
    let apart =
    or_parts (contains_kind stop_kinds (run_kind run))
    (list_any (contains_kind stop_kinds) (kinds_of (records_from (place + 0) entries))) none_stops in
    none_stops-append (λ event. contains_kind stop_kinds (event_kind event)) (events_of_run run bytes)
    (flat_map (entry_events input) entries)
    (no_event_stops-run (contains_kind stop_kinds) run bytes apart.0)
    (no_event_stops-entries stop_kinds input (place + 0) entries apart.1)

-- An event that isn't reported doesn't stop.
pub no_event_stops-reported : (kinds stop_kinds : ℕ) (events : List Event)
    → NoEventStops (contains_kind stop_kinds) (wanted_events kinds events)
    → NoEventStops (is_stop kinds stop_kinds) events
no_event_stops-reported kinds stop_kinds [] none_stops = refl
no_event_stops-reported kinds stop_kinds (event ∷ events) none_stops =
    elim (cases_Bool (contains_kind kinds (event_kind event))) [
      | inl wanted ↦
          let apart =
          or_parts (contains_kind stop_kinds (event_kind event))
          (list_any (λ event. contains_kind stop_kinds (event_kind event)) (wanted_events kinds events))
          (rw wanted at none_stops) in
          rw (wanted, apart.0) (no_event_stops-reported kinds stop_kinds events apart.1)
      | inr other ↦ rw other (no_event_stops-reported kinds stop_kinds events (rw other at none_stops))
    ]

-- If nothing that bytes add stops, nothing that fewer of them add does.
pub no_event_stops-earlier : (does_stop : ℕ → Bool) (stream bytes : List ℕ) (i n : ℕ) → i ≤ n
    → NoEventStops does_stop (added default_limit stream (take n bytes))
    → NoEventStops does_stop (added default_limit stream (take i bytes))
no_event_stops-earlier does_stop stream bytes i n earlier none_stops =
    let parts : i + (n - i) ≡ n = omega arith in
    no_event_stops-front does_stop (added default_limit stream (take i bytes))
    (added default_limit (stream ++ take i bytes) (take (n - i) (drop i bytes)))
    (rw (← parts, take-add i (n - i) bytes, added-append) at none_stops)

-- ---- what the bytes before the last add

-- No event that stops is given before the last byte that a call reads: a byte before that ends at a start, where the
-- call would have stopped, or adds nothing that stops.

module _ (does_stop : ℕ → Bool) (no_text : does_stop 0 ≡ false) (stream bytes : List ℕ) (n : ℕ)
    (within : n ≤ length bytes)
    (silent : OpensSilently default_limit)
    (asked : (i : ℕ) → i < n → IsStart stream bytes i
    → NoEventStops does_stop (reported_before default_limit stream bytes i)) where
  no_event_stops-at_start : (i : ℕ) → i < n → open_character (stream ++ take i bytes) ≡ []
      → NoEventStops does_stop (added default_limit stream (take i bytes))
  unfolding reported_before
  no_event_stops-at_start i earlier closed =
      no_event_stops-front does_stop (added default_limit stream (take i bytes))
      (if breaks_at stream bytes i then Print replacement ∷ [] else [])
      (asked i earlier (record { before_end = omega arith; starts = inl closed }))

  -- A byte after which no character is open ends at a start, and any other adds nothing that stops.
  pub no_event_stops-before : (i : ℕ) → i < n → NoEventStops does_stop (added default_limit stream (take i bytes))
  no_event_stops-before zero earlier = rw (added-nothing default_limit stream) refl
  no_event_stops-before (suc i) earlier =
      let byte : ℕ = get_or bytes i 0 in
      let here : List ℕ = stream ++ take i bytes in
      let one_more : take (suc i) bytes ≡ take i bytes ++ byte ∷ [] =
      rw (← add-one) (take_more bytes i 0 (omega arith)) in
      let before = no_event_stops-before i (omega arith) in
      elim (silent here byte) [
        | inl closed ↦ no_event_stops-at_start (suc i) earlier (rw (one_more, ← append_assoc) closed)
        | inr opens ↦ rw (one_more, added-append default_limit stream (take i bytes) (byte ∷ []))
            (none_stops-append (λ event. does_stop (event_kind event)) (added default_limit stream (take i bytes))
            (added default_limit here (byte ∷ [])) before (elim opens [
              | inl nothing ↦ rw nothing refl
              | inr broken ↦ rw (broken, no_text) refl
            ]))
      ]

-- A call goes on (`ReadsOn`) by calls of the parser, whose events are written as long as there is room, and by the runs
-- that these return. One step after another is a longer one (`reads_on-then`).
use Rattle.vte_c.proofs.Common.{added, after, ap, append-nil, AreCharacters, AreEmptyBuffers, arith, Bool, breaks_at, Buffers, buffers_with_event, cases_Bool, cases_lt, chars, ComesTo, contains_kind, data_of, DataRun, default_limit, drop, drop-drop, entry_events, Event, event_kind, events_of_run, false, false≢true, filter-append, flat_map, flat_map-append, GoesOnFromPositions, HasEntries, HasRead, HasReadOn, if◌then◌else◌, InInput, inl, InputRunKind, inr, is_stop, IsRunAt, IsRunOfKind, len_utf8_bounds, length, length-append, length-drop, length-encode, List, map, max_piece_bytes, must_return, nat_tests, NoRecordStops, NoRunStops, OpensSilently, or_parts, Parser, Print, Put, ReadsOn, refl, replacement, reported_before, ReportsUnits, resumed, resumed_stream, run_kind, run_record, Single, subst, sym, take, TextRun, true, wanted_events, with_entries, with_run, with_run_record, with_taken, zero-add, ℕ, [], ◌++◌, ◌+◌, ◌-◌, ◌<◌, ◌∙◌, ◌∷◌, ◌≡◌, ◌≤◌}
use Rattle.vte_c.proofs.lemmas.Buffers.{entries-nothing, entries-run, entries-then, entries-unit_more, entries_of, event-passed, event-written, no_record_stops-not_returning, not_returning-not_paused, paused-after_event, resumed-not_returning, resumed-same}
use Rattle.vte_c.proofs.lemmas.Continuations.{continues-added, continues-call, continues-nothing, continues-then, no_event_stops-before, no_event_stops-earlier, no_event_stops-entries, no_event_stops-front, no_event_stops-reported, no_event_stops-run, none_stops-append}
use Rattle.vte_core.proofs.lemmas.streams.After.{added-nothing}
use Rattle.vte_core.proofs.lemmas.streams.EarlyStops.{passed-at}
use Rattle.vte_core.specs.AdvanceToRun.{IsLongestRun, ReturnsRun, run_bytes, run_events, taken_bytes}
use Rattle.vte_core.specs.declared.reader.run.Run.{Run}
use Rattle.vte_core.specs.declared.reader.run.Taken.{Taken}
use Rattle.vte_core.specs.declared.reader.run.Taken.TheVariants.{Data, Nothing, Text}

-- ---- a run of the input

-- All events of a run are reported, or none.
one_kind-reported : (kinds : ℕ) (wanted : Bool) (event_of : ℕ → Event)
    → ((n : ℕ) → contains_kind kinds (event_kind (event_of n)) ≡ wanted)
    → (ns : List ℕ) → wanted_events kinds (map event_of ns) ≡ (if wanted then map event_of ns else [])
one_kind-reported kinds true event_of each_wanted [] = refl
one_kind-reported kinds false event_of each_wanted [] = refl
one_kind-reported kinds true event_of each_wanted (n ∷ ns) =
    rw (each_wanted n, one_kind-reported kinds true event_of each_wanted ns) refl
one_kind-reported kinds false event_of each_wanted (n ∷ ns) =
    rw (each_wanted n) (one_kind-reported kinds false event_of each_wanted ns)

run-reported : (kinds : ℕ) (wanted : Bool) (run : InputRunKind) (bytes : List ℕ)
    → contains_kind kinds (run_kind run) ≡ wanted
    → wanted_events kinds (events_of_run run bytes) ≡ (if wanted then events_of_run run bytes else [])
run-reported kinds wanted TextRun bytes kind_wanted =
    one_kind-reported kinds wanted Print (λ c. kind_wanted) (chars bytes)
run-reported kinds wanted DataRun bytes kind_wanted = one_kind-reported kinds wanted Put (λ b. kind_wanted) bytes

run-never_stops : (buffers : Buffers) (run : InputRunKind) → NoRunStops buffers
    → is_stop buffers.kinds buffers.stop_kinds (run_kind run) ≡ false
run-never_stops buffers TextRun no_run_stops = no_run_stops.0
run-never_stops buffers DataRun no_run_stops = no_run_stops.1

reads_on-run : {old new : Buffers} {already_read bytes : List ℕ} (run : InputRunKind) {from size : ℕ}
    → must_return old ≡ false
    → new ≡ with_run_record old (run_record (run_kind run) from size) → IsRunAt bytes run from size
    → added default_limit already_read (take size (drop from bytes)) ≡ events_of_run run (take size (drop from bytes))
    → ReadsOn old new already_read (already_read ++ take size (drop from bytes)) bytes from size
reads_on-run {old} {new} {already_read} {bytes} run {from} {size} not_returning recorded is_run adds =
    let part : List ℕ = take size (drop from bytes) in
    let continues = rw adds at (continues-added already_read (drop from bytes) size) in
    let no_stop_before = λ (no_run_stops : NoRunStops old) (i : ℕ) (earlier : i < size).
    no_event_stops-earlier (is_stop old.kinds old.stop_kinds) already_read (drop from bytes) i size (omega arith)
    (rw adds (no_event_stops-run (is_stop old.kinds old.stop_kinds) run part (run-never_stops old run no_run_stops))) in
    elim (cases_Bool (contains_kind old.kinds (run_kind run))) [
      | inl wanted ↦ record {
        given = events_of_run run part;
        entries = InInput run from size ∷ [];
        continues = continues;
        events_are = rw (append-nil (events_of_run run part)) (sym (run-reported old.kinds true run part wanted));
        holds = entries-run bytes run from size not_returning is_run (rw wanted at recorded);
        no_stop_before = no_stop_before;
      }
      | inr other ↦ record {
        given = events_of_run run part;
        entries = [];
        continues = continues;
        events_are = sym (run-reported old.kinds false run part other);
        holds = rw (rw other at recorded) (entries-nothing old bytes);
        no_stop_before = no_stop_before;
      }
    ]

-- ---- a call of the parser

events-singles : (input : List ℕ) (events : List Event) → flat_map (entry_events input) (map Single events) ≡ events
events-singles input [] = refl
events-singles input (event ∷ events) = ap (λ (events : List Event). event ∷ events) (events-singles input events)

-- Before the first byte at most U+FFFD is given, for a character that it breaks, and that doesn't fill the buffers.
not_returning-at_first : (old : Buffers) (broken : Bool) → AreEmptyBuffers old
    → NoRecordStops old.stop_kinds
    (after buffers_with_event old (if broken then Print replacement ∷ [] else [])).records
    → must_return (after buffers_with_event old (if broken then Print replacement ∷ [] else [])) ≡ false
not_returning-at_first old false are_empty no_stops = grind (arith, nat_tests)
not_returning-at_first old true are_empty no_stops =
    -- U+FFFD has at most four bytes of data, and its event doesn't pause the writer.
    let small : length (data_of (Print replacement)) ≤ 4 =
    omega (arith, length-encode replacement, (len_utf8_bounds replacement).1) in
    let next : Buffers = buffers_with_event old (Print replacement) in
    let not_paused : next.is_paused ≡ false = paused-after_event old (Print replacement) refl ∙ are_empty.not_paused in
    let same : resumed next ≡ next = resumed-same next not_paused in
    elim (cases_Bool (contains_kind old.kinds 0)) [
      | inl wanted ↦
          let written : next ≡ with_entries old (Single (Print replacement) ∷ []) =
          sym same
          ∙ event-written old (Print replacement) are_empty.not_paused
          (record {
            records_fit = omega (arith, are_empty.enough_records, are_empty.record_count);
            data_fits = omega (arith, are_empty.enough_data, are_empty.data_used);
          }) wanted in
          let other : contains_kind old.stop_kinds 0 ≡ false =
          (or_parts (contains_kind old.stop_kinds 0) false (rw (written, are_empty.records) at no_stops)).0 in
          rw written (grind (arith, nat_tests, length-append))
      | inr passed ↦
          let unchanged : next ≡ old = sym same ∙ event-passed old (Print replacement) are_empty.not_paused passed in
          rw unchanged (grind (arith, nat_tests))
    ]

-- The code cites these laws of the parser.
pub record Laws : Type 0 where
  pub units : ReportsUnits default_limit
  pub goes_on : GoesOnFromPositions default_limit
  pub silent : OpensSilently default_limit

module _ (old new : Buffers) (already_read bytes : List ℕ) (from n : ℕ) (laws : Laws)
    (not_returning : must_return old ≡ false)
    (comes : ComesTo buffers_with_event must_return old default_limit already_read (drop from bytes) new n) where
  -- What the call reports before position i, its first byte being at `from`.
  abbrev given_at : ℕ → List Event
  given_at i = reported_before default_limit already_read (drop from bytes) i

  -- All that was given is written, since the buffers weren't full at any start that the call came to.
  given-written : (i : ℕ) → i ≤ n
      → HasEntries old (resumed (after buffers_with_event old (given_at i))) bytes (entries_of old (given_at i))
  given-written i within =
      passed-at (λ events. HasEntries old (resumed (after buffers_with_event old events)) bytes (entries_of old events))
      (λ events. must_return (after buffers_with_event old events) ≡ false)
      already_read (drop from bytes) laws.units
      (rw (resumed-same old (not_returning-not_paused old not_returning)) (entries-nothing old bytes)) not_returning
      (entries-unit_more bytes old)
      i (omega (arith, comes.within)) (λ j earlier. comes.earlier j (omega arith))

  reads_on-call : ReadsOn old (resumed new) already_read (resumed_stream already_read (drop from bytes) n) bytes from n
  reads_on-call = record {
    given = given_at n;
    entries = entries_of old (given_at n);
    continues = continues-call laws.goes_on already_read (drop from bytes) n;
    events_are = events-singles bytes (wanted_events old.kinds (given_at n));
    holds =
        subst (λ (stored : Buffers). HasEntries old (resumed stored) bytes (entries_of old (given_at n)))
        (sym comes.performed) (given-written n (omega arith));
    no_stop_before = λ no_run_stops.
        no_event_stops-before (is_stop old.kinds old.stop_kinds) no_run_stops.0 already_read
        (drop from bytes) n comes.within
        laws.silent
        (λ i earlier start.
        no_event_stops-reported old.kinds old.stop_kinds (given_at i)
        (rw (events-singles bytes (wanted_events old.kinds (given_at i))) at
        (no_event_stops-entries old.stop_kinds bytes old.data_used (entries_of old (given_at i))
        (no_record_stops-not_returning (given-written i (omega arith))
        (resumed-not_returning (after buffers_with_event old (given_at i)) (comes.earlier i earlier start))))));
  }

-- ---- one step after the other, if the buffers aren't full in between

reads_on-nothing : {buffers : Buffers} {already_read bytes : List ℕ} {from : ℕ}
    → ReadsOn buffers buffers already_read already_read bytes from 0
reads_on-nothing {buffers} {already_read} {bytes} {from} = record {
  given = [];
  entries = [];
  continues = continues-nothing already_read (drop from bytes);
  events_are = refl;
  holds = entries-nothing buffers bytes;
  no_stop_before = λ no_run_stops i earlier. absurd (omega arith);
}

reads_on-then : {old mid new : Buffers} {already_read next last bytes : List ℕ} {from n m : ℕ}
    (reads : ReadsOn old mid already_read next bytes from n)
    → must_return mid ≡ false → from + n + m ≤ length bytes → ReadsOn mid new next last bytes (from + n) m
    → ReadsOn old new already_read last bytes from (n + m)
reads_on-then {old} {mid} {already_read} {bytes} {from} {n} {m} reads not_returning within reads_on =
    let unread : List ℕ = drop from bytes in
    let size = length-drop from bytes in
    -- The second step begins n bytes after the first, with the same kinds and stops.
    let rest : drop (from + n) bytes ≡ drop n unread = sym (drop-drop n from bytes) in
    let kinds : mid.kinds ≡ old.kinds = ap (λ (stored : Buffers). stored.kinds) reads.holds.written in
    let stops : mid.stop_kinds ≡ old.stop_kinds = ap (λ (stored : Buffers). stored.stop_kinds) reads.holds.written in
    record {
      given = reads.given ++ reads_on.given;
      entries = reads.entries ++ reads_on.entries;
      continues = continues-then reads.continues (rw rest at reads_on.continues) (omega (arith, within));
      events_are =
          rw (flat_map-append (entry_events bytes) reads.entries reads_on.entries, filter-append, reads.events_are)
          (rw kinds at
          (ap (λ (events : List Event). wanted_events old.kinds reads.given ++ events) reads_on.events_are));
      holds = entries-then reads.holds not_returning reads_on.holds;
      no_stop_before = λ no_run_stops i earlier. elim (cases_lt i n) [
        | inl front ↦ reads.no_stop_before no_run_stops i front
        | inr after_it ↦
            let k : ℕ = i - n in
            let position : n + k ≡ i = omega arith in
            let front = reads.continues.prefixes k (omega (arith, within)) in
            let does_stop : ℕ → Bool = is_stop old.kinds old.stop_kinds in
            -- The buffers weren't full after the first step, so none of its events stops.
            let given_without_stop =
            no_event_stops-reported old.kinds old.stop_kinds reads.given
            (rw reads.events_are at
            (no_event_stops-entries old.stop_kinds bytes old.data_used reads.entries
            (no_record_stops-not_returning reads.holds not_returning))) in
            -- Before the end of the second step, none of its events stops either.
            let later_without_stop =
            rw (kinds, stops, rest) at (reads_on.no_stop_before (rw (kinds, stops) no_run_stops) k (omega arith)) in
            -- What the first i bytes add is the first part of these events.
            rw (← position)
            (no_event_stops-front does_stop (added default_limit already_read (take (n + k) unread)) front.others
            (rw front.parts at
            (none_stops-append (λ event. does_stop (event_kind event)) _ _ given_without_stop later_without_stop)))
      ];
    }

-- A call that has read nothing is at its first byte.
pub has_read_on-nothing : {old : Buffers} {parser : Parser max_piece_bytes} {already_read bytes : List ℕ}
    → HasRead parser already_read
    → HasReadOn old old parser already_read bytes 0 0
has_read_on-nothing {already_read} reads = record { next = already_read; reads = reads; reads_on = reads_on-nothing }

-- A round goes on from where the one before it stopped, if the buffers weren't full there.
pub has_read_on-then : {old mid new : Buffers} {parser last : Parser max_piece_bytes} {already_read bytes : List ℕ}
    {n m : ℕ}
    (has_read : HasReadOn old mid parser already_read bytes 0 n)
    → must_return mid ≡ false → n + m ≤ length bytes → HasReadOn mid new last has_read.next bytes n m
    → HasReadOn old new last already_read bytes 0 (n + m)
has_read_on-then has_read not_returning within has_read_on =
    record {
      next = has_read_on.next;
      reads = has_read_on.reads;
      reads_on = reads_on-then has_read.reads_on not_returning (rw zero-add within) (rw zero-add has_read_on.reads_on);
    }

-- ---- a call of the parser, and the run that it returned

-- A run that has no bytes isn't there.
run-empty : (bytes : List ℕ) (end : ℕ) (taken : Taken) → IsLongestRun bytes end taken → length (taken_bytes taken) ≡ 0
    → (buffers : Buffers) (start : ℕ)
    → with_taken buffers start taken ≡ resumed buffers
run-empty bytes end (Text text) longest no_bytes buffers start = absurd (omega (arith, longest.0, no_bytes))
run-empty bytes end (Data slice) longest no_bytes buffers start = absurd (omega (arith, longest.0, no_bytes))
run-empty bytes end Nothing longest no_bytes buffers start = refl

module _ (old mid new : Buffers) (already_read bytes : List ℕ) (from : ℕ) (run : Run) {HasReadBefore : List ℕ → Type 0}
    (laws : Laws) (not_returning : must_return old ≡ false) (begins : from ≤ length bytes)
    (returned : ReturnsRun buffers_with_event must_return old mid default_limit HasReadBefore (drop from bytes) run)
    (before : HasReadBefore already_read) where
  -- The stream up to the start of the run.
  abbrev after_call : List ℕ
  after_call = resumed_stream already_read (drop from bytes) run.start

  reads_on-to_run_start : ReadsOn old (resumed mid) already_read after_call bytes from run.start
  reads_on-to_run_start =
      reads_on-call old mid already_read bytes from run.start laws not_returning (returned.comes already_read before)

  -- A run of this kind was recorded.
  reads_on-recorded : (kind : InputRunKind) → 0 < length (run_bytes run)
      → new ≡ with_run_record mid (run_record (run_kind kind) (from + run.start) (length (run_bytes run)))
      → IsRunOfKind kind (run_bytes run) → run_events run ≡ events_of_run kind (run_bytes run)
      → ReadsOn old new already_read (after_call ++ run_bytes run) bytes from run.end
  reads_on-recorded kind not_empty recorded is_run same_events =
      let here : take (length (run_bytes run)) (drop (from + run.start) bytes) ≡ run_bytes run =
      ap (take (length (run_bytes run))) (sym (drop-drop run.start from bytes)) ∙ sym returned.is_run.bytes_are in
      let within : from + run.start + length (run_bytes run) ≤ length bytes =
      omega (arith, begins, returned.is_run.end, returned.is_run.within, length-drop from bytes) in
      let open_room = returned.may_go_on (omega (arith, returned.is_run.end)) in
      let same_room : resumed mid ≡ mid = resumed-same mid (not_returning-not_paused mid open_room) in
      let by_run =
      reads_on-run {already_read = after_call} kind open_room recorded
      (record { within = within; not_empty = not_empty; is_of_kind = rw here is_run })
      (rw here (returned.adds already_read before ∙ same_events)) in
      rw returned.is_run.end
      (reads_on-then (rw same_room at reads_on-to_run_start) open_room within (rw here at by_run))

  reads_on-taken : (taken : Taken) → run.taken ≡ taken → AreCharacters taken
      → IsLongestRun (drop from bytes) run.end taken
      → new ≡ with_taken mid (from + run.start) taken
      → ReadsOn old new already_read (after_call ++ run_bytes run) bytes from run.end
  reads_on-taken (Text text) same_taken utf8 longest written =
      let bytes_are : run_bytes run ≡ text.now = ap taken_bytes same_taken in
      reads_on-recorded TextRun (rw bytes_are longest.0) (rw bytes_are written) (rw bytes_are (utf8, longest.1))
      (rw same_taken refl)
  reads_on-taken (Data slice) same_taken utf8 longest written =
      let bytes_are : run_bytes run ≡ slice.now = ap taken_bytes same_taken in
      reads_on-recorded DataRun (rw bytes_are longest.0) (rw bytes_are written) tt (rw same_taken refl)
  reads_on-taken Nothing same_taken utf8 longest written =
      let no_bytes : run_bytes run ≡ [] = ap taken_bytes same_taken in
      let end : run.end ≡ run.start = omega (arith, returned.is_run.end, ap length no_bytes) in
      rw (no_bytes, append-nil after_call, end, written) reads_on-to_run_start

  -- A call of the parser reads up to its run and over it, and the run is recorded.
  pub reads_on-to_run : AreCharacters run.taken → new ≡ with_run mid from run
      → ReadsOn old new already_read (after_call ++ run_bytes run) bytes from run.end
  reads_on-to_run utf8 recorded = reads_on-taken run.taken refl utf8 returned.is_run.longest recorded

  -- With room for what two bytes add, a call reads one, unless a record that stops was written.
  pub call-reads_some : AreEmptyBuffers old → from < length bytes → new ≡ with_run mid from run
      → NoRecordStops old.stop_kinds new.records → 0 < run.end
  unfolding reported_before
  call-reads_some are_empty before_end recorded no_stops = elim (cases_lt 0 run.end) [
    | inl moved ↦ moved
    | inr at_0 ↦
        let unread : List ℕ = drop from bytes in
        let start : run.start ≡ 0 = omega (arith, at_0, returned.is_run.end) in
        let empty : length (run_bytes run) ≡ 0 = omega (arith, at_0, returned.is_run.end) in
        let same : new ≡ resumed mid =
        recorded ∙ run-empty unread run.end run.taken returned.is_run.longest empty mid (from + run.start) in
        let performed = rw (start, added-nothing default_limit already_read) at
        (returned.comes already_read before).performed in
        let not_returning_at_first =
        not_returning-at_first old (breaks_at already_read unread 0) are_empty (rw (same, performed) at no_stops) in
        absurd
        (false≢true
        (sym not_returning_at_first ∙ ap must_return (sym performed)
        ∙ returned.stops (omega (arith, at_0, start)) (omega (arith, start, length-drop from bytes, before_end))))
  ]

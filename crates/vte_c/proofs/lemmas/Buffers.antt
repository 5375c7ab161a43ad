-- What events leave in the buffers. Those that aren't full have room for what one byte adds, so each event is written
-- as one entry (`event-written`), or isn't one of the kinds asked for (`event-passed`); so is all that one byte reports
-- (`entries-unit_more`), and a run of the input (`entries-run`).
use Rattle.std.proofs.lemmas.List.Folds.{list_any-append}
use Rattle.std.proofs.Math.Bool.{or-false, or_assoc}
use Rattle.vte_c.proofs.Common.{add-zero, after, any_of_kinds, ap, append-nil, append_assoc, AreaHolds, AreBrief, AreReadable, arith, AtMostOneFollowsStop, Bool, Buffers, buffers_of, buffers_with_event, cases_Bool, contains_kind, data_of, DataRun, default_limit, Entry, entry_data, Event, event_kind, EventWriter, false, filter-append, flag_byte, flat_map, flat_map-append, has_room_for_record, HasEntries, if◌then◌else◌, InInput, inl, InputRunKind, inr, IsBounded, IsRunAt, kinds_of, length, length-append, length-map, List, map, map-append, max_data_per_byte, may_have_lost, must_return, nat_lt, nat_tests, NoRecordStops, or_parts, OscDispatch, record_at, records_from, refl, resumed, run_kind, run_record, Single, subst, sym, take, TextRun, true, VteEvent, wanted_events, with_entries, with_record, with_record_alone, without_loss, ℕ, [], ◌%◌, ◌++◌, ◌+◌, ◌∙◌, ◌∷◌, ◌≡◌, ◌≤◌}
use Rattle.vte_c.proofs.lemmas.Continuations.{no_kind_stops-none, none_stops-append}
use Rattle.vte_c.proofs.lemmas.Lengths.{data_of-at_most, data_of-character_event}
use Rattle.vte_core.proofs.lemmas.places.PlaceLeads.{character_event_bounded}
use Rattle.vte_core.proofs.lemmas.streams.After.{after_events-append}

-- ---- entries one after the other, if the buffers aren't full in between

records-append : (offset : ℕ) (front back : List Entry)
    → records_from offset (front ++ back)
    ≡ records_from offset front ++ records_from (offset + length (flat_map entry_data front)) back
records-append offset [] back = rw add-zero refl
records-append offset (entry ∷ front) back =
    let size : offset + length (entry_data entry) + length (flat_map entry_data front)
    ≡ offset + length (entry_data entry ++ flat_map entry_data front) =
    omega (arith, length-append (entry_data entry) (flat_map entry_data front)) in
    rw (← size, records-append (offset + length (entry_data entry)) front back) refl

-- Each entry has one record.
pub length-records : (offset : ℕ) (entries : List Entry) → length (records_from offset entries) ≡ length entries
length-records offset [] = refl
length-records offset (entry ∷ entries) = omega (arith, length-records (offset + length (entry_data entry)) entries)

with_entries-append : (buffers : Buffers) (front back : List Entry)
    → with_entries (with_entries buffers front) back ≡ with_entries buffers (front ++ back)
with_entries-append buffers front back =
    let size : buffers.data_used + length (flat_map entry_data front) + length (flat_map entry_data back)
    ≡ buffers.data_used + length (flat_map entry_data front ++ flat_map entry_data back) =
    omega (arith, length-append (flat_map entry_data front) (flat_map entry_data back)) in
    let count : buffers.record_count + length front + length back ≡ buffers.record_count + length (front ++ back) =
    omega (arith, length-append front back) in
    rw (← count, records-append, flat_map-append, ← size, list_any-append)
    (rw (append_assoc buffers.records, append_assoc buffers.area, or_assoc) refl)

-- As long as buffers aren't full, no record stops.
pub no_record_stops-not_returning : {old new : Buffers} {input : List ℕ} {entries : List Entry}
    → HasEntries old new input entries → must_return new ≡ false
    → NoRecordStops old.stop_kinds (records_from old.data_used entries)
no_record_stops-not_returning {old} {new} {input} {entries} has_entries not_returning =
    let has_stopped : new.has_stopped ≡ false = grind (arith, nat_tests) in
    no_kind_stops-none old.stop_kinds (records_from old.data_used entries)
    (or_parts old.has_stopped (any_of_kinds old.stop_kinds (records_from old.data_used entries))
    (sym (ap (λ (stored : Buffers). stored.has_stopped) has_entries.written) ∙ has_stopped)).1

readable-append : (input : List ℕ) (front back : List Entry) → AreReadable input front → AreReadable input back
    → AreReadable input (front ++ back)
readable-append input [] back front_readable back_readable = back_readable
readable-append input (Single event ∷ front) back front_readable back_readable =
    (front_readable.0, readable-append input front back front_readable.1 back_readable)
readable-append input (InInput run start size ∷ front) back front_readable back_readable =
    (front_readable.0, readable-append input front back front_readable.1 back_readable)

-- At most two records may all be the last ones: one that stops, and one after it.
at_most_one_follows-two : (stop_kinds offset : ℕ) (entries : List Entry) → length entries ≤ 2
    → AtMostOneFollowsStop stop_kinds (kinds_of (records_from offset entries))
at_most_one_follows-two stop_kinds offset entries at_most =
    let count = length-map (records_from offset entries) (λ (vte_record : VteEvent). vte_record.kind) in
    record {
      before = [];
      last = kinds_of (records_from offset entries);
      parts = refl;
      no_stop_before = refl;
      at_most_two = omega (arith, count, length-records offset entries);
    }

-- Buffers to which nothing was added have no entries.
pub entries-nothing : (buffers : Buffers) (input : List ℕ) → HasEntries buffers buffers input []
entries-nothing buffers input =
    record {
      readable = tt;
      written = simp (append-nil, add-zero, or-false) refl;
      at_most_one_follows = at_most_one_follows-two buffers.stop_kinds buffers.data_used [] (omega arith);
    }

-- Entries that were written into buffers that weren't full may be followed by others.
pub entries-then : {old mid new : Buffers} {input : List ℕ} {front back : List Entry} → HasEntries old mid input front
    → must_return mid ≡ false
    → HasEntries mid new input back → HasEntries old new input (front ++ back)
entries-then {old} {mid} {new} {input} {front} {back} has_front not_returning has_back =
    let before = records_from old.data_used front in
    let back_stops =
    subst (λ (stored : Buffers). AtMostOneFollowsStop stored.stop_kinds (kinds_of (records_from stored.data_used back)))
    has_front.written has_back.at_most_one_follows in
    record {
      readable = readable-append input front back has_front.readable has_back.readable;
      written =
          has_back.written ∙ ap (λ (stored : Buffers). with_entries stored back) has_front.written
          ∙ with_entries-append old front back;
      at_most_one_follows = record {
        before = kinds_of before ++ back_stops.before;
        last = back_stops.last;
        parts =
            rw (records-append old.data_used front back, map-append, append_assoc (kinds_of before), ← back_stops.parts)
            refl;
        no_stop_before =
            none_stops-append (contains_kind old.stop_kinds) (kinds_of before) back_stops.before
            (no_record_stops-not_returning has_front not_returning)
            back_stops.no_stop_before;
        at_most_two = back_stops.at_most_two;
      };
    }

-- ---- before a write the area holds no data of the event

-- What was written ends where the next event begins.
pub holds-nothing : (writer : EventWriter) → AreaHolds (buffers_of writer) writer writer.data_used []
holds-nothing writer = record {
  same_buffers = refl;
  end_is = omega (arith, writer.data_fits, writer.data_capacity_is);
  data_is = λ within. sym (append-nil (take writer.data_used writer.area.now));
}

-- ---- a run of the input

-- What is written has no bit for lost data.
run-without_loss : (run : InputRunKind) (start size : ℕ)
    → without_loss (run_record (run_kind run) start size) ≡ run_record (run_kind run) start size
unfolding without_loss
run-without_loss TextRun start size = refl
run-without_loss DataRun start size = refl

-- The bit for lost data is the second one.
pub flag_byte-halved : (flag : Bool) → flag_byte flag % 2 ≡ flag_byte flag
flag_byte-halved true = refl
flag_byte-halved false = refl

single-without_loss : (offset : ℕ) (event : Event)
    → without_loss (record_at offset (Single event)) ≡ record_at offset (Single event)
unfolding without_loss
single-without_loss offset (OscDispatch pieces bell) = rw (flag_byte-halved bell) refl
single-without_loss offset _ = refl

-- Buffers that aren't full have room for the record of a run.
pub entries-run : {old new : Buffers} (input : List ℕ) (run : InputRunKind) (start size : ℕ) → must_return old ≡ false
    → IsRunAt input run start size
    → new ≡ with_record_alone old (run_record (run_kind run) start size)
    → HasEntries old new input (InInput run start size ∷ [])
unfolding with_record_alone
entries-run {old} {new} input run start size not_returning is_run recorded =
    let has_record_room : nat_lt old.record_count old.record_capacity ≡ true = grind (arith, nat_tests) in
    record {
      readable = (is_run, tt);
      written = rw (recorded, has_record_room, run-without_loss run start size) (simp (append-nil, add-zero, or-false));
      at_most_one_follows =
          at_most_one_follows-two old.stop_kinds old.data_used (InInput run start size ∷ []) (omega arith);
    }

-- ---- a pause, apart from which an event is written the same (`resumed`)

-- Buffers without a pause have nothing to resume.
pub resumed-same : (buffers : Buffers) → buffers.is_paused ≡ false → resumed buffers ≡ buffers
resumed-same buffers not_paused = ap (λ (is_paused : Bool). record buffers { is_paused = is_paused }) (sym not_paused)

-- A call that goes on isn't paused.
pub not_returning-not_paused : (buffers : Buffers) → must_return buffers ≡ false → buffers.is_paused ≡ false
not_returning-not_paused buffers not_returning = grind (arith, nat_tests)

-- A call that goes on would go on after a pause.
pub resumed-not_returning : (buffers : Buffers) → must_return buffers ≡ false → must_return (resumed buffers) ≡ false
resumed-not_returning buffers not_returning =
    ap must_return (resumed-same buffers (not_returning-not_paused buffers not_returning)) ∙ not_returning

choice-resumed : (choice : Bool) (first second other_first other_second : Buffers)
    → resumed first ≡ resumed other_first → resumed second ≡ resumed other_second
    → resumed (if choice then first else second) ≡ resumed (if choice then other_first else other_second)
choice-resumed true first second other_first other_second same_first same_second = same_first
choice-resumed false first second other_first other_second same_first same_second = same_second

choice-paused : (choice is_paused : Bool) (first second : Buffers) → first.is_paused ≡ is_paused
    → second.is_paused ≡ is_paused
    → (if choice then first else second).is_paused ≡ is_paused
choice-paused true is_paused first second first_is second_is = first_is
choice-paused false is_paused first second first_is second_is = second_is

-- An event is written in the same way after a pause.
event-resumed : (buffers : Buffers) (event : Event)
    → resumed (buffers_with_event buffers event) ≡ resumed (buffers_with_event (resumed buffers) event)
unfolding with_record_alone with_record
event-resumed buffers event =
    choice-resumed (contains_kind buffers.kinds (event_kind event)) _ _ _ _
    (choice-resumed (has_room_for_record buffers (length (data_of event))) _ _ _ _
    (choice-resumed (nat_lt buffers.record_count buffers.record_capacity) _ _ _ _ refl refl) refl) refl

-- Only a command that may have lost data pauses a call.
pub paused-after_event : (buffers : Buffers) (event : Event) → may_have_lost event ≡ false
    → (buffers_with_event buffers event).is_paused ≡ buffers.is_paused
unfolding with_record_alone with_record
paused-after_event buffers event kept =
    choice-paused (contains_kind buffers.kinds (event_kind event)) buffers.is_paused _ _
    (rw kept
    (choice-paused (has_room_for_record buffers (length (data_of event))) buffers.is_paused _ _
    (choice-paused (nat_lt buffers.record_count buffers.record_capacity) buffers.is_paused _ _ refl refl) refl)) refl

-- ---- events of the parser

-- There is room for `count` events and `size` bytes of data.
pub record HasRoomFor (buffers : Buffers) (count size : ℕ) : Type 0 where
  pub records_fit : buffers.record_count + count ≤ buffers.record_capacity
  pub data_fits : buffers.data_used + size ≤ buffers.data_capacity

-- Buffers that aren't full have room for what one byte adds.
not_returning-has_room : (buffers : Buffers) → must_return buffers ≡ false → HasRoomFor buffers 2 max_data_per_byte
not_returning-has_room buffers not_returning = record {
  records_fit = grind (arith, nat_tests);
  data_fits = grind (arith, nat_tests);
}

-- An event of the kinds is written as one entry, if there is room for it.
pub event-written : (buffers : Buffers) (event : Event) → buffers.is_paused ≡ false
    → HasRoomFor buffers 1 (length (data_of event))
    → contains_kind buffers.kinds (event_kind event) ≡ true
    → resumed (buffers_with_event buffers event) ≡ with_entries buffers (Single event ∷ [])
unfolding with_record_alone with_record
event-written buffers event not_paused room_for wanted =
    let has_both : has_room_for_record buffers (length (data_of event)) ≡ true = grind (arith, nat_tests) in
    let has_record_room : nat_lt buffers.record_count buffers.record_capacity ≡ true = grind (arith, nat_tests) in
    rw (wanted, has_both, has_record_room, single-without_loss buffers.data_used event, not_paused)
    (simp (append-nil, or-false))

-- An event that isn't reported leaves the buffers as they are.
pub event-passed : (buffers : Buffers) (event : Event) → buffers.is_paused ≡ false
    → contains_kind buffers.kinds (event_kind event) ≡ false
    → resumed (buffers_with_event buffers event) ≡ buffers
event-passed buffers event not_paused other = rw other (resumed-same buffers not_paused)

-- Each event that is reported has an entry.
abbrev pub entries_of : Buffers → List Event → List Entry
entries_of buffers events = map Single (wanted_events buffers.kinds events)

entries-event : (input : List ℕ) (buffers : Buffers) (event : Event) → IsBounded default_limit event
    → buffers.is_paused ≡ false
    → HasRoomFor buffers 1 (length (data_of event))
    → HasEntries buffers (resumed (buffers_with_event buffers event)) input (entries_of buffers (event ∷ []))
entries-event input buffers event bounded not_paused room_for =
    elim (cases_Bool (contains_kind buffers.kinds (event_kind event))) [
      | inl wanted ↦
          rw (event-written buffers event not_paused room_for wanted, wanted)
          (record {
            readable = (bounded, tt);
            written = refl;
            at_most_one_follows =
                at_most_one_follows-two buffers.stop_kinds buffers.data_used (Single event ∷ []) (omega arith);
          })
      | inr other ↦ rw (event-passed buffers event not_paused other, other) (entries-nothing buffers input)
    ]

-- One event has at most one entry, with no more data.
record AddsAtMostOneEntry (buffers : Buffers) (event : Event) : Type 0 where
  pub count : length (entries_of buffers (event ∷ [])) ≤ 1
  pub size : length (flat_map entry_data (entries_of buffers (event ∷ []))) ≤ length (data_of event)

event-adds_at_most_one : (buffers : Buffers) (event : Event) → AddsAtMostOneEntry buffers event
event-adds_at_most_one buffers event = elim (cases_Bool (contains_kind buffers.kinds (event_kind event))) [
  | inl wanted ↦
      record { count = rw wanted (omega arith); size = rw wanted (omega (arith, length-append (data_of event) [])) }
  | inr other ↦ record { count = rw other (omega arith); size = rw other (omega arith) }
]

entries-unit : (input : List ℕ) (buffers : Buffers) (unit : List Event) → AreBrief default_limit unit
    → must_return buffers ≡ false
    → HasEntries buffers (resumed (after buffers_with_event buffers unit)) input (entries_of buffers unit)
entries-unit input buffers [] brief not_returning =
    rw (resumed-same buffers (not_returning-not_paused buffers not_returning)) (entries-nothing buffers input)
entries-unit input buffers (event ∷ []) brief not_returning =
    let room_for = not_returning-has_room buffers not_returning in
    let size = data_of-at_most event brief in
    entries-event input buffers event brief (not_returning-not_paused buffers not_returning)
    (record { records_fit = omega (arith, room_for.records_fit); data_fits = omega (arith, room_for.data_fits) })
entries-unit input buffers (event ∷ last ∷ []) brief not_returning =
    let room_for = not_returning-has_room buffers not_returning in
    -- The first event has at most 1,088 bytes of data, and the last one at most four.
    let size = data_of-at_most event brief.0 in
    let short = data_of-character_event last brief.1 in
    -- Each has at most one entry, with no more data than the event.
    let first_adds = event-adds_at_most_one buffers event in
    let last_adds = event-adds_at_most_one buffers last in
    let next : Buffers = resumed (buffers_with_event buffers event) in
    -- The buffers aren't full, so they have room for the first event.
    let first =
    entries-event input buffers event brief.0 (not_returning-not_paused buffers not_returning)
    (record { records_fit = omega (arith, room_for.records_fit); data_fits = omega (arith, room_for.data_fits) }) in
    -- After that event, the buffers differ from the old ones by the entry alone.
    let kinds : next.kinds ≡ buffers.kinds = ap (λ (stored : Buffers). stored.kinds) first.written in
    let count = ap (λ (stored : Buffers). stored.record_count) first.written in
    let same_capacity = ap (λ (stored : Buffers). stored.record_capacity) first.written in
    let used = ap (λ (stored : Buffers). stored.data_used) first.written in
    let same_size = ap (λ (stored : Buffers). stored.data_capacity) first.written in
    -- So what is left is enough for the last event.
    let room_for_last : HasRoomFor next 1 (length (data_of last)) = record {
      records_fit = omega (arith, room_for.records_fit, first_adds.count, count, same_capacity);
      data_fits = omega (arith, room_for.data_fits, first_adds.size, size, short, used, same_size);
    } in
    -- The last event is written into these buffers, which report the same kinds.
    let second =
    subst
    (λ (asked : ℕ).
    HasEntries next (resumed (buffers_with_event next last)) input (map Single (wanted_events asked (last ∷ []))))
    kinds
    (entries-event input next last (character_event_bounded default_limit last brief.1) refl room_for_last) in
    -- The entries of both events are those of the first, followed by those of the last.
    let both : entries_of buffers (event ∷ last ∷ [])
    ≡ entries_of buffers (event ∷ []) ++ entries_of buffers (last ∷ []) =
    ap (map Single) (filter-append (λ event. contains_kind buffers.kinds (event_kind event)) (event ∷ []) (last ∷ []))
    ∙ map-append Single _ _ in
    -- A pause after the first event doesn't change how the last one is written, so the two steps join.
    rw (event-resumed (buffers_with_event buffers event) last, both) (record {
      readable = readable-append input _ _ first.readable second.readable;
      written =
          second.written ∙ ap (λ (stored : Buffers). with_entries stored (entries_of buffers (last ∷ []))) first.written
          ∙ with_entries-append buffers _ _;
      at_most_one_follows = at_most_one_follows-two buffers.stop_kinds buffers.data_used
          (entries_of buffers (event ∷ []) ++ entries_of buffers (last ∷ []))
          (omega (
            arith,
            first_adds.count,
            last_adds.count,
            length-append (entries_of buffers (event ∷ [])) (entries_of buffers (last ∷ [])),
          ));
    })
entries-unit input buffers (event ∷ last ∷ third ∷ events) brief not_returning = absurd brief

-- What is reported up to the next start is written, since the buffers weren't full at this one.
pub entries-unit_more : {old : Buffers} (input : List ℕ) (buffers : Buffers) (before unit : List Event)
    → HasEntries old (resumed (after buffers_with_event buffers before)) input (entries_of old before)
    → must_return (after buffers_with_event buffers before) ≡ false → AreBrief default_limit unit
    → HasEntries old (resumed (after buffers_with_event buffers (before ++ unit))) input
    (entries_of old (before ++ unit))
entries-unit_more {old} input buffers before unit has_entries not_returning brief =
    let mid : Buffers = after buffers_with_event buffers before in
    -- The buffers before the unit aren't full, so they aren't paused either.
    let same : resumed mid ≡ mid = resumed-same mid (not_returning-not_paused mid not_returning) in
    let first : HasEntries old mid input (entries_of old before) = rw same at has_entries in
    let kinds : mid.kinds ≡ old.kinds = ap (λ (stored : Buffers). stored.kinds) first.written in
    -- The unit is written into these buffers, which report the kinds of the old ones.
    rw (after_events-append buffers_with_event buffers before unit, filter-append, map-append)
    (entries-then first not_returning
    (subst
    (λ (asked : ℕ).
    HasEntries mid (resumed (after buffers_with_event mid unit)) input (map Single (wanted_events asked unit)))
    kinds
    (entries-unit input mid unit brief not_returning)))

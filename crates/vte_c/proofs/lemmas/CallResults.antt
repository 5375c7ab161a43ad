-- What calls give of a stream (`HasGiven`), events or text: each call's part comes after what was given before
-- (`given-more`), and once nothing is unread, all is given. A call that began with empty buffers gives the events of
-- what it read (`call-fed`), and its caller gets them by its counts and slices (`got-first`).
use Rattle.vte_c.proofs.Common.{added, all_kinds, ap, append-nil, append_assoc, AreEmptyBuffers, AreEncoded, arith, AtMostOneFollowsStop, Buffers, buffers_of, bytes_read, contains_kind, default_limit, drop, drop-append-le, Entry, entry_events, Event, event_kind, events, events_in, EventWriter, filter-append, flat_map, HasEntries, HasFed, HasGiven, HasRead, HasReadOn, HasReadSaved, HasReported, kinds_of, length, length-map, length-take, List, max_piece_bytes, min, nat_tests, no_room, NoKindStops, NoRecordStops, Parser, Print, refl, Saved, sym, take, take-append-drop, true, VteEvent, wanted_events, without_loss, ℕ, [], ◌++◌, ◌<◌, ◌∙◌, ◌∷◌, ◌≡◌, ◌≤◌}
use Rattle.vte_c.proofs.lemmas.Buffers.{length-records}
use Rattle.vte_c.proofs.lemmas.ReadBack.{entries-read, entry_events-later, kinds-without_loss, readable-later, records-without_loss}
use Rattle.vte_core.proofs.lemmas.streams.After.{added-nothing}

-- ---- from calls to streams

-- A call that isn't short of room returns what it has read.
pub bytes_read-with_room : (n : ℕ) → n < no_room → bytes_read n ≡ n
bytes_read-with_room n small = grind (arith, nat_tests)

-- Every event has one of eight kinds.
event-reported : (event : Event) → contains_kind all_kinds (event_kind event) ≡ true
unfolding contains_kind
event-reported (Print c) = refl
event-reported _ = refl

-- A caller that wants all kinds gets all events.
pub events-reported : (events : List Event) → wanted_events all_kinds events ≡ events
events-reported [] = refl
events-reported (event ∷ events) = rw (event-reported event, events-reported events) refl

module _ {A : Type 0} {of : List Event → List A} where
  -- A new parser has read nothing, and nothing was given.
  pub given-nothing : {parser : Saved} → events default_limit [] ≡ [] → HasReadSaved parser []
      → HasGiven of parser [] [] []
  given-nothing no_events has_read = record {
    already_read = [];
    reads = has_read;
    total_is = λ more. rw no_events refl;
  }

  -- Bytes that come later are unread, too.
  pub given-before : (parser : Saved) (given : List A) (stream unread bytes : List ℕ)
      → HasGiven of parser given stream unread
      → HasGiven of parser given (stream ++ bytes) (unread ++ bytes)
  given-before parser given stream unread bytes has_given = record {
    already_read = has_given.already_read;
    reads = has_given.reads;
    total_is = λ more. rw (append_assoc unread, append_assoc stream) (has_given.total_is (bytes ++ more));
  }

  -- What a call gives comes next, and the parser goes on from where it stopped.
  pub given-more : {old new : Saved} {before : List A} {stream next : List ℕ} (now : List A) (bytes rest : List ℕ)
      (n : ℕ) (has_given : HasGiven of old before stream (bytes ++ rest))
      → HasReadSaved new next
      → ((more : List ℕ)
      → now ++ of (added default_limit next (drop n bytes ++ more))
      ≡ of (added default_limit has_given.already_read (bytes ++ more)))
      → HasGiven of new (before ++ now) stream (drop n bytes ++ rest)
  given-more {before} {next} now bytes rest n has_given reads now_is = record {
    already_read = next;
    reads = reads;
    total_is =
        λ more. rw (append_assoc before, append_assoc (drop n bytes), now_is (rest ++ more), ← append_assoc bytes)
        (has_given.total_is more);
  }

  -- Once nothing is unread, what was given is what is given of the whole stream.
  pub given-all : of [] ≡ [] → (parser : Saved) (given : List A) (stream : List ℕ) → HasGiven of parser given stream []
      → given ≡ of (events default_limit stream)
  given-all none_of_none parser given stream has_given =
      rw (added-nothing default_limit has_given.already_read, none_of_none, append-nil given, append-nil stream) at
      (has_given.total_is [])

-- ---- buffers that were empty

-- The buffers then hold just the records and data of the call's entries, so a reader finds their events.

module _ (old new : EventWriter) (input : List ℕ) (entries : List Entry) (are_empty : AreEmptyBuffers (buffers_of old))
    (has_entries : HasEntries (buffers_of old) (buffers_of new) input entries) (more : List ℕ) where
  -- What the buffers hold encodes the events of the entries, whatever bytes follow the input.
  abbrev events-encoded : AreEncoded (flat_map (entry_events (input ++ more)) entries) new.record_count new.data_used
      new.records.now
      (input ++ more) new.area.now
  events-encoded = record {
    entries = entries;
    events_are = refl;
    readable = readable-later input more entries has_entries.readable;
    count_is =
        omega (arith, ap (λ (stored : Buffers). stored.record_count) has_entries.written, are_empty.record_count);
    records_are =
        rw (are_empty.records, are_empty.data_used) at (ap (λ (stored : Buffers). stored.records) has_entries.written);
    used_is = omega (arith, ap (λ (stored : Buffers). stored.data_used) has_entries.written, are_empty.data_used);
    data_is = rw are_empty.area at (ap (λ (stored : Buffers). stored.area) has_entries.written);
  }

  -- A caller finds the events.
  events-found : events_in new.record_count new.records.now (input ++ more) new.area.now
      ≡ flat_map (entry_events (input ++ more)) entries
  events-found = sym (records-without_loss (input ++ more) new.area.now (take new.record_count new.records.now))
      ∙ rw events-encoded.records_are
      (entries-read (input ++ more) new.area.now new.data_used entries
      (readable-later input more entries has_entries.readable) events-encoded.data_is)

-- ---- what a call ensures, and the counts that its caller gets

-- A call that began with empty buffers has fed its caller what it read.
pub call-fed : {old new : EventWriter} {parser : Parser max_piece_bytes} {saved : Saved} {given : List Event}
    {stream bytes rest : List ℕ}
    {n : ℕ} → AreEmptyBuffers (buffers_of old)
    → {before : Saved} (has_reported : HasReported (buffers_of old).kinds before given stream (bytes ++ rest))
    → HasReadOn (buffers_of old) (buffers_of new) parser has_reported.already_read bytes 0 n
    → ((already_read : List ℕ) → HasRead parser already_read → HasReadSaved saved already_read)
    → (NoRecordStops (buffers_of old).stop_kinds (buffers_of new).records → 0 < length bytes → 0 < n)
    → HasFed old new saved given stream bytes rest n
call-fed {old} {new} {given} {stream} {bytes} {rest} {n} are_empty has_reported has_read_on saves further =
    let reads_on = has_read_on.reads_on in
    let there = events-encoded old new bytes reads_on.entries are_empty reads_on.holds in
    let finds = events-found old new bytes reads_on.entries are_empty reads_on.holds in
    record {
      same_records_name = ap (λ (stored : Buffers). stored.records_name) reads_on.holds.written;
      same_area_name = ap (λ (stored : Buffers). stored.area_name) reads_on.holds.written;
      reads_some = λ no_stops. further (rw (kinds-without_loss (take new.record_count new.records.now)) no_stops);
      at_most_one_follows =
          rw (
            ← kinds-without_loss (take new.record_count new.records.now),
            (there []).records_are,
            ← are_empty.data_used,
          )
          reads_on.holds.at_most_one_follows;
      encodes = λ more. rw (finds more) (there more);
      reports = λ more.
          rw (finds more, entry_events-later bytes more reads_on.entries reads_on.holds.readable)
          (given-more (flat_map (entry_events bytes) reads_on.entries) bytes rest n has_reported
          (saves has_read_on.next has_read_on.reads)
          (λ later. rw (reads_on.continues.added_parts later, filter-append, reads_on.events_are) refl));
    }

-- The caller's counts, and what its slices hold, are those of the writer.
pub record AreOfBuffers (writer : EventWriter) (record_count data_used : ℕ) (records : List VteEvent)
    (area : List ℕ) : Type 0 where
  pub same_count : record_count ≡ writer.record_count
  pub same_used : data_used ≡ writer.data_used
  pub same_records : records ≡ writer.records.now
  pub same_area : area ≡ writer.area.now

-- A count is at most the length of its slice, which a call leaves as it is.
pub counts-of_writer : {events : List Event} {input area : List ℕ} {records : List VteEvent} (writer : EventWriter)
    (record_count data_used : ℕ)
    → AreEncoded events writer.record_count writer.data_used writer.records.now input writer.area.now
    → records ≡ writer.records.now
    → area ≡ writer.area.now
    → record_count ≡ min writer.record_count (length records) → data_used ≡ min writer.data_used (length area)
    → AreOfBuffers writer record_count data_used records area
counts-of_writer writer record_count data_used encoded records area count_is used_is =
    let at_most = length-take writer.record_count writer.records.now in
    let small = length-take writer.data_used writer.area.now in
    let same_length = length-map (take writer.record_count writer.records.now) without_loss in
    let entry_count = length-records 0 encoded.entries in
    record {
      same_count =
          omega (arith, encoded.count_is, entry_count, ap length encoded.records_are, same_length, ap length records);
      same_used = omega (arith, encoded.used_is, ap length encoded.data_is, ap length area);
      same_records = records;
      same_area = area;
    }

-- What a caller has got by its counts and slices: the events that come next, encoded.
pub record HasGot (kinds stop_kinds : ℕ) (parser : Saved) (given : List Event) (stream bytes rest : List ℕ)
    (n record_count data_used : ℕ) (records : List VteEvent) (area : List ℕ) : Type 0 where
  pub exact : HasReported kinds parser (given ++ events_in record_count records bytes area) stream
      (drop n bytes ++ rest)
  pub encoded : AreEncoded (events_in record_count records bytes area) record_count data_used records bytes area
  pub reads_some : NoKindStops stop_kinds (kinds_of (take record_count records)) → 0 < length bytes → 0 < n
  pub at_most_one_follows : AtMostOneFollowsStop stop_kinds (kinds_of (take record_count records))

-- If a call reads from the first m bytes, what was fed of them is got of all, of which the others are still unread.
pub got-first : {old new : EventWriter} {next : Saved} {given : List Event} {stream area : List ℕ}
    {n record_count data_used : ℕ} {records : List VteEvent} (m : ℕ) (bytes rest : List ℕ)
    → HasFed old new next given stream (take m bytes) (drop m bytes ++ rest) n
    → AreOfBuffers new record_count data_used records area
    → n ≤ length (take m bytes) → (0 < length bytes → 0 < m)
    → HasGot (buffers_of old).kinds (buffers_of old).stop_kinds next given stream bytes rest n record_count data_used
    records area
got-first {n} m bytes rest fed same within not_empty =
    let parts : take m bytes ++ drop m bytes ≡ bytes = take-append-drop m bytes in
    let unread = drop-append-le n (take m bytes) (drop m bytes) within in
    rw (same.same_count, same.same_used, same.same_records, same.same_area)
    (record {
      exact = rw (← append_assoc (drop n (take m bytes)), ← unread, parts) at (fed.reports (drop m bytes));
      encoded = rw parts at (fed.encodes (drop m bytes));
      reads_some = λ no_stops some_bytes.
          fed.reads_some no_stops (omega (arith, length-take m bytes, not_empty some_bytes));
      at_most_one_follows = fed.at_most_one_follows;
    })

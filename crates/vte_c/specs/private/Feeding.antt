-- How far a call has come.
use Rattle.std.specs.List.{flat_map, list_any}
use Rattle.std.specs.Prelude.{Bool, drop, false, length, List, take, ℕ, ◌++◌, ◌+◌, ◌<◌, ◌||◌, ◌≡◌, ◌≤◌}
use Rattle.vte_c.specs.declared.event.VteEvent.{VteEvent}
use Rattle.vte_c.specs.declared.event_writer.EventWriter.{EventWriter}
use Rattle.vte_c.specs.private.Buffers.{Buffers, buffers_of}
use Rattle.vte_c.specs.Record.{contains_kind, data_kind, Entry, entry_data, entry_events, events_in, kinds_of, max_piece_bytes, records_from, text_kind, wanted_events}
use Rattle.vte_c.specs.Reported.{AreEncoded, AreReadable, AtMostOneFollowsStop, HasReported, is_stop, NoEventStops, NoKindStops}
use Rattle.vte_core.specs.declared.parser.Parser.{Parser}
use Rattle.vte_core.specs.declared.parser.saved.Saved.{Saved}
use Rattle.vte_core.specs.Event.{Event}
use Rattle.vte_core.specs.Parser.{HasRead}
use Rattle.vte_core.specs.Stream.{added, default_limit}

-- The events are the first of those of another list.
pub record IsPrefix (events all : List Event) : Type 0 where
  pub others : List Event
  pub parts : all ≡ events ++ others

-- After n of the bytes these events were reported, and a parser that had read one stream continues
-- as one that has read another.
pub record Continues (already_read next bytes : List ℕ) (n : ℕ) (given : List Event) : Type 0 where
  pub added_parts : (more : List ℕ) →
      added default_limit already_read (bytes ++ more)
      ≡ given ++ added default_limit next (drop n bytes ++ more)
  -- What a prefix of the bytes adds, beyond the first n.
  pub prefixes : (k : ℕ) → n + k ≤ length bytes →
      IsPrefix (added default_limit already_read (take (n + k) bytes))
      (given ++ added default_limit next (take k (drop n bytes)))

-- Whether a record is of the kinds.
abbrev pub any_of_kinds : ℕ → List VteEvent → Bool
any_of_kinds kinds records = list_any (λ vte_record. contains_kind kinds vte_record.kind) records

-- No record is of the kinds.
abbrev pub NoRecordStops : ℕ → List VteEvent → Type 0
NoRecordStops stop_kinds records = NoKindStops stop_kinds (kinds_of records)

-- No event stops a call into these buffers.
abbrev pub NoEventStopsIn : Buffers → List Event → Type 0
NoEventStopsIn buffers events = NoEventStops (is_stop buffers.kinds buffers.stop_kinds) events

-- Neither text nor data stop a call into these buffers.
abbrev pub NoRunStops : Buffers → Type 0
NoRunStops buffers =
    (is_stop buffers.kinds buffers.stop_kinds text_kind ≡ false)
    × (is_stop buffers.kinds buffers.stop_kinds data_kind ≡ false)

-- The buffers with the records of these entries, and their data.
abbrev pub with_entries : Buffers → List Entry → Buffers
with_entries buffers entries = record buffers {
  records = buffers.records ++ records_from buffers.data_used entries;
  record_count = buffers.record_count + length entries;
  area = buffers.area ++ flat_map entry_data entries;
  data_used = buffers.data_used + length (flat_map entry_data entries);
  has_stopped = buffers.has_stopped || any_of_kinds buffers.stop_kinds
      (records_from buffers.data_used entries);
}

-- These entries were written: the buffers hold their records and their data, and at most two of
-- the records follow those that don't stop.
pub record HasEntries (old new : Buffers) (input : List ℕ) (entries : List Entry) : Type 0 where
  pub readable : AreReadable input entries
  pub written : new ≡ with_entries old entries
  pub at_most_one_follows : AtMostOneFollowsStop old.stop_kinds
      (kinds_of (records_from old.data_used entries))

-- After bytes up to an offset n more were read: their events of the kinds are those of entries,
-- which were written, and the parser goes on as if it had read `next`.
pub record ReadsOn (old new : Buffers) (already_read next bytes : List ℕ)
    (from n : ℕ) : Type 0 where
  pub given : List Event
  pub entries : List Entry
  pub continues : Continues already_read next (drop from bytes) n given
  pub events_are : flat_map (entry_events bytes) entries ≡ wanted_events old.kinds given
  pub holds : HasEntries old new bytes entries
  pub no_stop_before : NoRunStops old → (i : ℕ) → i < n →
      NoEventStopsIn old (added default_limit already_read (take i (drop from bytes)))

-- A call that had read bytes up to an offset has read n more.
pub record HasReadOn (old new : Buffers) (parser : Parser max_piece_bytes)
    (already_read bytes : List ℕ) (from n : ℕ) : Type 0 where
  pub next : List ℕ
  pub reads : HasRead parser next
  pub reads_on : ReadsOn old new already_read next bytes from n

-- A call read the first n bytes and wrote their events into the caller's buffers, where they are
-- found whatever follows the bytes.
pub record HasFed (old new : EventWriter) (parser : Saved) (given : List Event)
    (stream bytes rest : List ℕ) (n : ℕ) : Type 0 where
  pub same_records_name : new.records.ghost_name ≡ old.records.ghost_name
  pub same_area_name : new.area.ghost_name ≡ old.area.ghost_name
  pub reads_some :
      NoKindStops (buffers_of old).stop_kinds (kinds_of (take new.record_count new.records.now)) →
      0 < length bytes → 0 < n
  pub at_most_one_follows : AtMostOneFollowsStop (buffers_of old).stop_kinds
      (kinds_of (take new.record_count new.records.now))
  pub encodes : (more : List ℕ) →
      AreEncoded (events_in new.record_count new.records.now (bytes ++ more) new.area.now)
      new.record_count new.data_used new.records.now (bytes ++ more) new.area.now
  pub reports : (more : List ℕ) →
      HasReported (buffers_of old).kinds parser
      (given ++ events_in new.record_count new.records.now (bytes ++ more) new.area.now)
      stream (drop n bytes ++ rest)

-- The caller's buffers for events, and how an event changes them.
use Rattle.std.specs.Prelude.{Bool, false, if◌then◌else◌, length, List, map, min, nat_le, nat_lt, take, ℕ, [], ⊤, ◌&&◌, ◌++◌, ◌+◌, ◌-◌, ◌^◌, ◌||◌, ◌∷◌, ◌≡◌, ◌≤◌}
use Rattle.std.specs.Str.{IsUtf8}
use Rattle.vte_c.specs.declared.event.VteEvent.{VteEvent}
use Rattle.vte_c.specs.declared.event_writer.EventWriter.{EventWriter}
use Rattle.vte_c.specs.Record.{contains_kind, data_kind, data_of, event_kind, max_data_per_byte, may_have_lost, min_data, min_events, record_of, run_record, text_kind, without_loss}
use Rattle.vte_core.specs.declared.reader.run.Run.{Run}
use Rattle.vte_core.specs.declared.reader.run.Taken.{Taken}
use Rattle.vte_core.specs.declared.reader.run.Taken.TheVariants.{Data, Nothing, Text}
use Rattle.vte_core.specs.Event.{Event}

-- What was written, how much that is, how much fits, which kinds to write and after which to stop.
-- It is paused after a command that may have lost data. The names identify the caller's slices.
pub record Buffers : Type 0 where
  pub records : List VteEvent
  pub record_count : ℕ
  pub record_capacity : ℕ
  pub area : List ℕ
  pub data_used : ℕ
  pub data_capacity : ℕ
  pub kinds : ℕ
  pub stop_kinds : ℕ
  pub has_stopped : Bool
  pub is_paused : Bool
  pub records_name : ℕ
  pub area_name : ℕ

-- The used part of both slices. Whether a command lost data is left out: it is written later.
abbrev pub buffers_of : EventWriter → Buffers
buffers_of writer = record {
  records = map without_loss (take writer.record_count writer.records.now);
  record_count = writer.record_count;
  record_capacity = length writer.records.now;
  area = take writer.data_used writer.area.now;
  data_used = writer.data_used;
  data_capacity = writer.data_capacity;
  kinds = writer.kinds;
  stop_kinds = writer.stop_kinds;
  has_stopped = writer.has_stopped;
  is_paused = writer.is_paused;
  records_name = writer.records.ghost_name;
  area_name = writer.area.ghost_name;
}

-- A record is appended if there is room for one more, and dropped otherwise. One that is appended
-- stops the call if its kind is among the stops.
unfoldable pub with_record_alone : Buffers → VteEvent → Buffers
with_record_alone buffers vte_record =
    if nat_lt buffers.record_count buffers.record_capacity then record buffers {
      records = buffers.records ++ without_loss vte_record ∷ [];
      record_count = buffers.record_count + 1;
      has_stopped = buffers.has_stopped || contains_kind buffers.stop_kinds vte_record.kind;
    }
    else buffers

-- There is room for a record with this many data bytes.
abbrev pub has_room_for_record : Buffers → ℕ → Bool
has_room_for_record buffers more =
    nat_lt buffers.record_count buffers.record_capacity
    && nat_le (buffers.data_used + more) buffers.data_capacity

-- A record and its data are appended if there is room for both, and dropped otherwise. The record
-- starts where the data of the others ends.
unfoldable pub with_record : Buffers → VteEvent → List ℕ → Buffers
with_record buffers vte_record bytes =
    let written = record buffers {
      area = buffers.area ++ bytes;
      data_used = buffers.data_used + length bytes;
    } in
    if has_room_for_record buffers (length bytes)
    then with_record_alone written (record vte_record { start = buffers.data_used })
    else buffers

-- A record and its data are appended, as above, only if its kind is among those to write.
abbrev pub with_wanted_record : Buffers → VteEvent → List ℕ → Buffers
with_wanted_record buffers vte_record bytes =
    if contains_kind buffers.kinds vte_record.kind
    then with_record buffers vte_record bytes else buffers

-- A pause lasts, whatever follows, until the call is resumed.
abbrev pub paused_if : Bool → Buffers → Buffers
paused_if pauses buffers = record buffers { is_paused = pauses || buffers.is_paused }

-- A pause ends once the parser has said whether the command lost data.
abbrev pub resumed : Buffers → Buffers
resumed buffers = record buffers { is_paused = false }

-- An event of the kinds is appended, as above. A command that may have lost data pauses the call,
-- even if there was no room for it.
abbrev pub buffers_with_event : Buffers → Event → Buffers
buffers_with_event buffers event =
    if contains_kind buffers.kinds (event_kind event)
    then paused_if (may_have_lost event) (with_record buffers (record_of event) (data_of event))
    else buffers

-- After what was written, the area holds a text up to `end`, or has no room for it.
pub record AreaHolds (buffers : Buffers) (writer : EventWriter) (end : ℕ)
    (text : List ℕ) : Type 0 where
  pub same_buffers : buffers_of writer ≡ buffers
  pub end_is : end ≡ min (buffers.data_used + length text) (2 ^ 64 - 1)
  pub data_is : end ≤ buffers.data_capacity → take end writer.area.now ≡ buffers.area ++ text

-- The record of a run is appended only if its kind is among those to write. Its bytes are in the
-- input, so it takes no room in the area.
abbrev pub with_run_record : Buffers → VteEvent → Buffers
with_run_record buffers vte_record =
    if contains_kind buffers.kinds vte_record.kind
    then with_record_alone buffers vte_record else buffers

-- The record of a run that the parser returned is appended, with the offset of its first byte.
-- Without a run a pause ends.
abbrev pub with_taken : Buffers → ℕ → Taken → Buffers
with_taken buffers start (Text text) =
    with_run_record buffers (run_record text_kind start (length text.now))
with_taken buffers start (Data slice) =
    with_run_record buffers (run_record data_kind start (length slice.now))
with_taken buffers start Nothing = resumed buffers

-- The parser counts the run's start from `from` on, and its record from the start of the input.
abbrev pub with_run : Buffers → ℕ → Run → Buffers
with_run buffers from run = with_taken buffers (from + run.start) run.taken

-- A text is well-formed.
abbrev pub AreCharacters : Taken → Type 0
AreCharacters (Text text) = IsUtf8 text.now
AreCharacters _ = ⊤

-- There may be no room for what one byte adds, or a stop or a pause has come.
abbrev pub must_return : Buffers → Bool
must_return buffers =
    buffers.has_stopped || buffers.is_paused
    || nat_lt (buffers.record_capacity - buffers.record_count) 2
    || nat_lt (buffers.data_capacity - buffers.data_used) max_data_per_byte

-- Empty buffers, large enough for what two bytes add.
pub record AreEmptyBuffers (buffers : Buffers) : Type 0 where
  pub records : buffers.records ≡ []
  pub area : buffers.area ≡ []
  pub record_count : buffers.record_count ≡ 0
  pub data_used : buffers.data_used ≡ 0
  pub not_stopped : buffers.has_stopped ≡ false
  pub not_paused : buffers.is_paused ≡ false
  pub enough_records : min_events ≤ buffers.record_capacity
  pub enough_data : min_data ≤ buffers.data_capacity

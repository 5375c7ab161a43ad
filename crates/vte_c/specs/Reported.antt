-- What was reported of a stream to a caller.
use Rattle.std.specs.List.{flat_map, list_any}
use Rattle.std.specs.Prelude.{Bool, drop, false, if◌then◌else◌, length, List, map, take, ℕ, [], ⊤, ◌&&◌, ◌++◌, ◌+◌, ◌-◌, ◌<◌, ◌==◌, ◌^◌, ◌∷◌, ◌≡◌, ◌≤◌}
use Rattle.std.specs.Str.{IsUtf8}
use Rattle.event_log.specs.Plain.{plain_text}
use Rattle.vte_c.specs.declared.event.VteEvent.{VteEvent}
use Rattle.vte_c.specs.Record.{contains_kind, DataRun, Entry, entry_data, entry_events, event_kind, InInput, InputRunKind, records_from, Single, TextRun, wanted_events, without_loss}
use Rattle.vte_core.specs.declared.parser.saved.Saved.{Saved}
use Rattle.vte_core.specs.Event.{Event}
use Rattle.vte_core.specs.EventBounds.{IsBounded}
use Rattle.vte_core.specs.RunText.{HasNoControls}
use Rattle.vte_core.specs.Saved.{HasReadSaved}
use Rattle.vte_core.specs.Stream.{added, default_limit, events}

-- The parser has read the stream except for the unread bytes at its end. What was given of its
-- events, followed by what is given of those that the unread and more bytes add, is what is given
-- of the events of all bytes.
pub record HasGiven {A : Type 0} (report_of : List Event → List A) (parser : Saved) (given : List A)
    (stream unread : List ℕ) : Type 0 where
  pub already_read : List ℕ
  pub reads : HasReadSaved parser already_read
  pub total_is : (more : List ℕ) →
      given ++ report_of (added default_limit already_read (unread ++ more))
      ≡ report_of (events default_limit (stream ++ more))

-- The events of these kinds were reported.
abbrev pub HasReported : ℕ → Saved → List Event → List ℕ → List ℕ → Type 0
HasReported kinds parser given stream unread =
    HasGiven (wanted_events kinds) parser given stream unread

-- The text of the events was written.
abbrev pub HasStripped : Saved → List ℕ → List ℕ → List ℕ → Type 0
HasStripped parser text stream unread = HasGiven plain_text parser text stream unread

-- The result of a call with less than the minimum room: the largest number of its type.
abbrev pub no_room : ℕ
no_room = 2 ^ 64 - 1

-- How many bytes a call with this result has read.
abbrev pub bytes_read : ℕ → ℕ
bytes_read result = if result == no_room then 0 else result

-- Events of a kind stop a call if they are reported and among the stops.
abbrev pub is_stop : ℕ → ℕ → ℕ → Bool
is_stop kinds stop_kinds kind = contains_kind kinds kind && contains_kind stop_kinds kind

-- No event has a kind that stops.
abbrev pub NoEventStops : (ℕ → Bool) → List Event → Type 0
NoEventStops does_stop events = list_any (λ event. does_stop (event_kind event)) events ≡ false

-- None of these is among the stops.
abbrev pub NoKindStops : ℕ → List ℕ → Type 0
NoKindStops stop_kinds record_kinds = list_any (contains_kind stop_kinds) record_kinds ≡ false

-- A call stops after the first record that is among the stops: at most one follows it.
pub record AtMostOneFollowsStop (stop_kinds : ℕ) (record_kinds : List ℕ) : Type 0 where
  pub before : List ℕ
  pub last : List ℕ
  pub parts : record_kinds ≡ before ++ last
  pub no_stop_before : NoKindStops stop_kinds before
  pub at_most_two : length last ≤ 2

-- A text is well-formed characters, none of them a control. Data may be any bytes: its events are
-- these.
abbrev pub IsRunOfKind : InputRunKind → List ℕ → Type 0
IsRunOfKind TextRun bytes = IsUtf8 bytes × HasNoControls bytes
IsRunOfKind DataRun bytes = ⊤

-- A part of the input that is a run, of one byte or more.
pub record IsRunAt (input : List ℕ) (run : InputRunKind) (start size : ℕ) : Type 0 where
  pub within : start + size ≤ length input
  pub not_empty : 0 < size
  pub is_of_kind : IsRunOfKind run (take size (drop start input))

-- The entries can be read: an event is within the limits, and what is in the input is a run.
abbrev pub AreReadable : List ℕ → List Entry → Type 0
AreReadable input [] = ⊤
AreReadable input (Single event ∷ entries) = IsBounded default_limit event
    × AreReadable input entries
AreReadable input (InInput run start size ∷ entries) =
    IsRunAt input run start size × AreReadable input entries

-- These events are encoded, and nothing else: by `record_count` records, one for each entry, and
-- `data_used` bytes of data, which begin in the area where the record says. A run in the input has
-- no data.
-- That the record of a command says whether data were lost is only tested.
pub record AreEncoded (events : List Event) (record_count data_used : ℕ) (records : List VteEvent)
    (input area : List ℕ) : Type 0 where
  pub entries : List Entry
  pub events_are : flat_map (entry_events input) entries ≡ events
  pub readable : AreReadable input entries
  pub count_is : record_count ≡ length entries
  pub records_are : map without_loss (take record_count records) ≡ records_from 0 entries
  pub used_is : data_used ≡ length (flat_map entry_data entries)
  pub data_is : take data_used area ≡ flat_map entry_data entries

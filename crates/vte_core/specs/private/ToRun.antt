-- How far a call has come that returns a run.
use Rattle.std.specs.Prelude.{drop, Err, false, length, List, map, Ok, Option, Result, slice_index, take, true, ℕ, [], ⊤, ◌++◌, ◌-◌, ◌<◌, ◌≡◌}
use Rattle.std.specs.Str.{chars}
use Rattle.vte_core.specs.Class.{class_of, is_device_data, IsDeviceData}
use Rattle.vte_core.specs.declared.parser.machine.Machine.{Machine}
use Rattle.vte_core.specs.declared.parser.refused.Refused.{Refused}
use Rattle.vte_core.specs.declared.parser.State.{State}
use Rattle.vte_core.specs.declared.parser.State.TheVariants.{DeviceData, Text}
use Rattle.vte_core.specs.declared.reader.run.RunKind.{RunKind}
use Rattle.vte_core.specs.declared.reader.run.RunKind.TheVariants.{Data as DataKind, Nothing as NoKind, Text as TextKind}
use Rattle.vte_core.specs.declared.reader.run.RunRange.{RunRange}
use Rattle.vte_core.specs.declared.reader.run.Taken.{Taken}
use Rattle.vte_core.specs.declared.reader.run.Taken.TheVariants.{Data, Nothing, Text as TakenText}
use Rattle.vte_core.specs.Event.{Event, Print, Put}
use Rattle.vte_core.specs.private.AtPlace.{HasReadWithLimit}
use Rattle.vte_core.specs.private.Progress.{ChunkCall, IsAtPosition}
use Rattle.vte_core.specs.private.Runs.{IsUtf8Run}
use Rattle.vte_core.specs.private.Scans.{ArePositions}
use Rattle.vte_core.specs.RunText.{HasNoRunAt}
use Rattle.vte_core.specs.Stream.{added}

-- The state is neither in a text nor in data.
abbrev pub IsOutsideTextAndData : State → Type 0
IsOutsideTextAndData (Text _) = ⊥
IsOutsideTextAndData DeviceData = ⊥
IsOutsideTextAndData _ = ⊤

-- A byte is read in a sequence or a string, and isn't put.
abbrev pub IsOutsideRunsInState : State → ℕ → Type 0
IsOutsideRunsInState (Text _) b = ⊥
IsOutsideRunsInState DeviceData b = is_device_data (class_of b) ≡ false
IsOutsideRunsInState _ b = ⊤

-- The bytes of the range.
abbrev pub bytes_at : List ℕ → RunRange → List ℕ
bytes_at bytes range = take (range.end - range.start) (drop range.start bytes)

-- Text consists of characters, none of which is a control.
abbrev pub AreOfKind : RunKind → List ℕ → Type 0
AreOfKind TextKind bytes = IsUtf8Run false bytes
AreOfKind _ bytes = ⊤

-- What was taken is a run of this kind, with these bytes.
abbrev pub IsTaken : RunKind → List ℕ → Taken → Type 0
IsTaken TextKind bytes (TakenText text) = text.now ≡ bytes
IsTaken DataKind bytes (Data slice) = slice.now ≡ bytes
IsTaken NoKind bytes Nothing = ⊤
IsTaken _ bytes _ = ⊥

-- What the bytes of a run add to a stream.
abbrev pub kind_events : RunKind → List ℕ → List Event
kind_events TextKind bytes = map Print (chars bytes)
kind_events DataKind bytes = map Put bytes
kind_events NoKind bytes = []

-- Nothing of the kind is where the run ends. A run isn't empty.
abbrev pub IsWholeAt : List ℕ → RunRange → RunKind → Type 0
IsWholeAt bytes range TextKind = (range.start < range.end) × HasNoRunAt false bytes range.end
IsWholeAt bytes range DataKind =
    (range.start < range.end) × (range.end < length bytes
    → IsDeviceData (slice_index bytes range.end) → ⊥)
IsWholeAt bytes range NoKind = range.start ≡ range.end

-- A run is there, adds its events to what the parser has read, and leaves the parser as it is.
pub record HasRun {B : Type 0} (limit : Option ℕ) (bytes : List ℕ) (range : RunRange)
    (parser : Machine B) : Type 0 where
  pub is_range : ArePositions bytes range.start range.end
  pub kind : AreOfKind range.kind (bytes_at bytes range)
  pub longest : IsWholeAt bytes range range.kind
  pub adds : (stream : List ℕ) → HasReadWithLimit limit parser stream
      → added limit stream (bytes_at bytes range) ≡ kind_events range.kind (bytes_at bytes range)
  pub reads : (stream : List ℕ) → HasReadWithLimit limit parser stream
      → HasReadWithLimit limit parser (stream ++ bytes_at bytes range)

-- The call came to a run, to its end or to a stop.
pub record ComesToRun {V B : Type 0} (call : ChunkCall V) (old new : V) (range : RunRange)
    (parser next : Machine B) : Type 0 where
  pub has : HasRun call.limit call.bytes range next
  pub is_at_position : (stream : List ℕ) → HasReadWithLimit call.limit parser stream
      → IsAtPosition call old new stream range.start next
  pub may_go_on : range.start < range.end → call.is_terminated new ≡ false
  pub stops : range.end ≡ range.start → range.start < length call.bytes
      → call.is_terminated new ≡ true

-- How many bytes a call with this result read before a run.
abbrev pub read_before_range : Result RunRange Refused → ℕ
read_before_range (Ok range) = range.start
read_before_range (Err refused) = refused.read

-- How many bytes a call with this result read.
abbrev pub read_through_range : Result RunRange Refused → ℕ
read_through_range (Ok range) = range.end
read_through_range (Err refused) = refused.read

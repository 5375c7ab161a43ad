-- What `advance_to_run` ensures.
use Rattle.std.specs.Prelude.{Bool, drop, false, length, List, map, Option, slice_index, take, true, ℕ, [], ⊤, ◌*◌, ◌++◌, ◌+◌, ◌<◌, ◌≡◌, ◌≤◌}
use Rattle.std.specs.Str.{chars}
use Rattle.vte_core.specs.Class.{IsDeviceData}
use Rattle.vte_core.specs.declared.reader.run.Run.{Run}
use Rattle.vte_core.specs.declared.reader.run.Taken.{Taken}
use Rattle.vte_core.specs.declared.reader.run.Taken.TheVariants.{Data, Nothing, Text}
use Rattle.vte_core.specs.EarlyStop.{ComesTo, resumed_stream}
use Rattle.vte_core.specs.Event.{Event, Print, Put}
use Rattle.vte_core.specs.OutsideRuns.{ReportsOutsideRuns}
use Rattle.vte_core.specs.Parser.{ParserFacts}
use Rattle.vte_core.specs.RunText.{HasNoControls, HasNoRunAt}
use Rattle.vte_core.specs.Stream.{added}

-- The bytes of a run: those of its text, or its data.
abbrev pub taken_bytes : Taken → List ℕ
taken_bytes (Text text) = text.now
taken_bytes (Data slice) = slice.now
taken_bytes Nothing = []

-- The bytes that the call read and left to its caller.
abbrev pub run_bytes : Run → List ℕ
run_bytes run = taken_bytes run.taken

-- The events of a run: its characters are printed, or its data put.
abbrev pub taken_events : Taken → List Event
taken_events (Text text) = map Print (chars text.now)
taken_events (Data slice) = map Put slice.now
taken_events Nothing = []

-- The events that the caller performs for them.
abbrev pub run_events : Run → List Event
run_events run = taken_events run.taken

-- A text has a character and no control, and no character that is printed follows. Data have a
-- byte, and no byte that is put follows.
abbrev pub IsLongestRun : List ℕ → ℕ → Taken → Type 0
IsLongestRun bytes end (Text text) =
    (0 < length text.now) × HasNoControls text.now × HasNoRunAt false bytes end
IsLongestRun bytes end (Data slice) =
    (0 < length slice.now) × (end < length bytes → IsDeviceData (slice_index bytes end) → ⊥)
IsLongestRun bytes end Nothing = ⊤

-- The run is in the bytes at its position.
pub record IsRunIn (bytes : List ℕ) (run : Run) : Type 0 where
  pub end : run.end ≡ run.start + length (run_bytes run)
  pub within : run.end ≤ length bytes
  pub bytes_are : run_bytes run ≡ take (length (run_bytes run)) (drop run.start bytes)
  pub longest : IsLongestRun bytes run.end run.taken

-- A call returned the run. `HasReadBefore` says which streams the parser had read.
pub record ReturnsRun {V : Type 0} (step : V → Event → V) (is_terminated : V → Bool) (old new : V)
    (limit : Option ℕ) (HasReadBefore : List ℕ → Type 0)
    (bytes : List ℕ) (run : Run) : Type 0 where
  pub is_run : IsRunIn bytes run
  -- The performer receives what is reported before the run, and nothing of the run.
  pub comes : (stream : List ℕ) → HasReadBefore stream
      → ComesTo step is_terminated old limit stream bytes new run.start
  -- A call that reports the run would add its events.
  pub adds : (stream : List ℕ) → HasReadBefore stream
      → added limit (resumed_stream stream bytes run.start) (run_bytes run) ≡ run_events run
  -- There is a run only if the performer isn't terminated.
  pub may_go_on : run.start < run.end → is_terminated new ≡ false
  -- If there is no run, the performer is terminated or all bytes were read.
  pub stops : run.end ≡ run.start → run.start < length bytes → is_terminated new ≡ true

-- `advance_to_run` reports what comes before the first run, and returns the run.
pub record ReadsToRun {V : Type 0} (step : V → Event → V) (is_terminated : V → Bool)
    (run : Run) (old new : V) (bytes : List ℕ) (parser next : ParserFacts) : Type 0 where
  pub returns : ReturnsRun step is_terminated old new parser.limit parser.has_read bytes run
  -- The parser goes on after the run.
  pub reads : (stream : List ℕ) → parser.has_read stream
      → next.has_read (resumed_stream stream bytes run.start ++ run_bytes run)
  -- Characters and data are left to the run.
  pub outside_runs : (stream : List ℕ) → parser.has_read stream
      → ReportsOutsideRuns parser.limit stream bytes run.start
  -- At most 7 looks per byte read and 8 more, and at least one per byte read.
  pub looks_at_most : next.looks ≤ parser.looks + 7 * run.end + 8
  pub looks_at_least : parser.looks + run.end ≤ next.looks

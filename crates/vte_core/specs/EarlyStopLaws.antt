-- Laws of early stops, which functions of `laws` state as contracts.
use Rattle.std.specs.Prelude.{drop, length, List, Option, ℕ, [], ◌++◌, ◌<◌, ◌≡◌, ◌≤◌, ◌⊎◌}
use Rattle.vte_core.specs.EarlyStop.{IsStart, reported_before, resumed_stream}
use Rattle.vte_core.specs.Event.{Event}
use Rattle.vte_core.specs.EventBounds.{AreBrief}
use Rattle.vte_core.specs.Stream.{added}

-- What is reported before a position, and what the unread bytes and more add from there, is
-- together what all bytes add.
abbrev pub GoesOnFromPositions : Option ℕ → Type 0
GoesOnFromPositions limit = (stream bytes more : List ℕ) (n : ℕ) →
    added limit stream (bytes ++ more)
    ≡ reported_before limit stream bytes n
    ++ added limit (resumed_stream stream bytes n) (drop n bytes ++ more)

-- These events had been reported at a start before position i.
pub record AreReportedAtStart (limit : Option ℕ) (stream bytes : List ℕ) (i : ℕ)
    (events : List Event) : Type 0 where
  pub start : ℕ
  pub earlier : start < i
  pub starts : IsStart stream bytes start
  pub events_are : events ≡ reported_before limit stream bytes start

-- What is reported before a position is what was reported at an earlier start, if any, and one
-- brief unit.
pub record ReportsUnit (limit : Option ℕ) (stream bytes : List ℕ) (i : ℕ) : Type 0 where
  pub before : List Event
  pub unit : List Event
  pub parts : reported_before limit stream bytes i ≡ before ++ unit
  pub brief : AreBrief limit unit
  pub at_start : (before ≡ []) ⊎ AreReportedAtStart limit stream bytes i before

-- `ReportsUnit` for each position: a performer that is asked at each start is asked after each
-- unit.
abbrev pub ReportsUnits : Option ℕ → Type 0
ReportsUnits limit = (stream bytes : List ℕ) (i : ℕ) → i ≤ length bytes
    → ReportsUnit limit stream bytes i

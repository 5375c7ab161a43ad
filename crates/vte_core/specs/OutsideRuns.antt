-- Events other than those of runs.
use Rattle.std.specs.List.{All}
use Rattle.std.specs.Prelude.{drop, List, Option, ℕ, [], ⊤, ◌≡◌, ◌≤◌}
use Rattle.vte_core.specs.EarlyStop.{reported_before}
use Rattle.vte_core.specs.Event.{Event, Print, Put, replacement}
use Rattle.vte_core.specs.Stream.{open_character}

-- Neither a printed character nor data. U+FFFD is allowed: it stands for what is malformed.
abbrev pub IsOutsideRuns : Event → Type 0
IsOutsideRuns (Print c) = c ≡ replacement
IsOutsideRuns (Put byte) = ⊥
IsOutsideRuns _ = ⊤

-- Neither a printed character of ASCII nor data.
abbrev pub PrintsNoAscii : Event → Type 0
PrintsNoAscii (Print c) = 0x80 ≤ c
PrintsNoAscii (Put byte) = ⊥
PrintsNoAscii _ = ⊤

-- Before position n of a call nothing is reported that belongs to a run: only the character that
-- an earlier call began, if one was open. It is reported first.
pub record ReportsOutsideRuns (limit : Option ℕ) (stream bytes : List ℕ) (n : ℕ) : Type 0 where
  pub outside_runs : open_character stream ≡ []
      → All IsOutsideRuns (reported_before limit stream bytes n)
  pub after_first : All IsOutsideRuns (drop 1 (reported_before limit stream bytes n))
  -- The character that an earlier call began isn't ASCII.
  pub no_ascii : All PrintsNoAscii (reported_before limit stream bytes n)

-- Runs of text, and their events.
use Rattle.std.specs.List.{All}
use Rattle.std.specs.Prelude.{Bool, drop, false, if◌then◌else◌, length, List, not, take, true, ℕ, ◌&&◌, ◌+◌, ◌==◌, ◌||◌, ◌≡◌, ◌≤◌}
use Rattle.std.specs.Str.{chars}
use Rattle.vte_core.specs.Event.{Event, Execute, Print}
use Rattle.vte_core.specs.Text.{is_control_character}
use Rattle.vte_core.specs.Utf8.{is_well_formed, scalar_of}

-- HT, LF and CR, which lay a text out.
abbrev pub is_layout : ℕ → Bool
is_layout c = c == 0x09 || c == 0x0a || c == 0x0d

-- The controls that end a run of text: all of them or, with `layout`, all but HT, LF and CR.
abbrev pub ends_run : Bool → ℕ → Bool
ends_run layout c = not (layout && is_layout c) && is_control_character c

-- The character doesn't end a run.
abbrev pub StaysInRun : Bool → ℕ → Type 0
StaysInRun layout c = ends_run layout c ≡ false

-- No character of the text ends a run.
abbrev pub IsRunText : Bool → List ℕ → Type 0
IsRunText layout text = All (StaysInRun layout) (chars text)

-- No character of a run begins at the position: a well-formed sequence there ends the run.
abbrev pub HasNoRunAt : Bool → List ℕ → ℕ → Type 0
HasNoRunAt layout bytes position =
    (n : ℕ) → position + n ≤ length bytes → is_well_formed (take n (drop position bytes)) ≡ true
    → ends_run layout (scalar_of (take n (drop position bytes))) ≡ true

-- No character of a text is a control.
abbrev pub HasNoControls : List ℕ → Type 0
HasNoControls text = IsRunText false text

-- The event of a character of a run: with `layout`, HT, LF and CR are executed. All others are
-- printed.
abbrev pub run_event : Bool → ℕ → Event
run_event layout c = if layout && is_layout c then Execute c else Print c

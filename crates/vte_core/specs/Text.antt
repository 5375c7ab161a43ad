-- The events of a text.
use Rattle.std.specs.List.{filter}
use Rattle.std.specs.Prelude.{Bool, if◌then◌else◌, List, map, nat_le, nat_lt, ℕ, [], ◌&&◌, ◌||◌, ◌∷◌}
use Rattle.vte_core.specs.Class.{class_of, is_plain_control}
use Rattle.vte_core.specs.Event.{Event, Execute, Print, replacement}
use Rattle.vte_core.specs.Outcome.{CharacterToClose, leaves, NothingToClose, Outcome, report}
use Rattle.vte_core.specs.Utf8.{is_truncated, is_well_formed, scalar_of, segments}

-- C0 and C1: U+0000..U+001F and U+0080..U+009F.
abbrev pub is_control_character : ℕ → Bool
is_control_character c = nat_lt c 0x20 || (nat_le 0x80 c && nat_lt c 0xa0)

-- A control character is executed as one byte; any other is printed.
unfoldable pub character_event : ℕ → Event
character_event c = if is_control_character c then Execute c else Print c

-- A single byte 80..9F is executed; any other malformed sequence prints U+FFFD once.
unfoldable pub malformed_event : List ℕ → Event
malformed_event (b ∷ []) = if is_control_character b then Execute b else Print replacement
malformed_event _ = Print replacement

-- Each segment gives one event.
unfoldable pub segment_event : List ℕ → Event
segment_event segment =
    if is_well_formed segment then character_event (scalar_of segment) else malformed_event segment

-- The events of the segments in order. A truncated sequence at the end stays open.
abbrev pub segments_outcome : List (List ℕ) → Outcome
segments_outcome [] = leaves NothingToClose
segments_outcome (segment ∷ []) =
    if is_truncated segment then leaves (CharacterToClose segment)
    else report (segment_event segment ∷ []) (leaves NothingToClose)
segments_outcome (segment ∷ next ∷ more) =
    report (segment_event segment ∷ []) (segments_outcome (next ∷ more))

-- A text is read segment by segment.
unfoldable pub text_outcome : List ℕ → Outcome
text_outcome text = segments_outcome (segments text)

-- Plain controls are executed, and the rest is dropped.
unfoldable pub executed_events : List ℕ → List Event
executed_events bytes = map Execute (filter (λ b. is_plain_control (class_of b)) bytes)

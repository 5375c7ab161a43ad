-- What a collector holds, and what an event adds to it.
use Rattle.std.specs.Prelude.{Bool, false, if◌then◌else◌, length, List, nat_le, nat_lt, true, ℕ, [], ◌++◌, ◌+◌, ◌/◌}
use Rattle.event_log.specs.declared.lines.LogBuffer.{LogBuffer}
use Rattle.vte_core.specs.Event.{Event}

-- The text, and whether something was dropped.
pub record CollectedText : Type 0 where
  pub bytes : List ℕ
  pub lost : Bool

-- What a collector holds at first, and after it is cleared.
abbrev pub empty_text : CollectedText
empty_text = record { bytes = []; lost = false }

-- How many bytes a collector holds at most.
abbrev pub capacity : ℕ
capacity = 8192

-- Whether there is room for a text after these bytes.
abbrev pub has_room_after : List ℕ → List ℕ → Bool
has_room_after bytes text = nat_le (length bytes + length text) capacity

-- A text is appended whole if there is room for it, and dropped otherwise.
unfoldable pub with_text : CollectedText → List ℕ → CollectedText
with_text collected text =
    if has_room_after collected.bytes text
    then record { bytes = collected.bytes ++ text; lost = collected.lost }
    else record { bytes = collected.bytes; lost = true }

-- An event adds its text.
abbrev pub with_event : (Event → List ℕ) → CollectedText → Event → CollectedText
with_event text_of collected event = with_text collected (text_of event)

-- Whether more than half of the capacity is in use.
abbrev pub is_to_be_written : CollectedText → Bool
is_to_be_written collected = nat_lt (capacity / 2) (length collected.bytes)

-- What a `LogBuffer` holds.
abbrev pub collected_text_of : LogBuffer → CollectedText
collected_text_of lines = record { bytes = lines.bytes.items; lost = lines.lost }

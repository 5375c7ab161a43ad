-- The caller's buffer for text, and how an event changes it.
use Rattle.std.specs.Prelude.{Bool, drop, false, if◌then◌else◌, length, List, nat_le, take, true, ℕ, [], ◌&&◌, ◌++◌, ◌+◌, ◌≡◌, ◌≤◌}
use Rattle.event_log.specs.Plain.{plain_text_of}
use Rattle.vte_c.specs.declared.text.TextWriter.{TextWriter}
use Rattle.vte_c.specs.Record.{min_text}
use Rattle.vte_c.specs.Reported.{HasStripped}
use Rattle.vte_core.specs.declared.parser.saved.Saved.{Saved}
use Rattle.vte_core.specs.Event.{Event}

-- What was written, how much that is, how much fits, whether all did, and which of the caller's
-- slices it is.
pub record WrittenText : Type 0 where
  pub text : List ℕ
  pub used : ℕ
  pub capacity : ℕ
  pub fits : Bool
  pub name : ℕ

-- The used part of the slice.
abbrev pub written_text_of : TextWriter → WrittenText
written_text_of writer = record {
  text = take writer.used writer.bytes.now;
  used = writer.used;
  capacity = length writer.bytes.now;
  fits = writer.fits;
  name = writer.bytes.ghost_name;
}

-- A text is written if there is room for it, and was for all before; otherwise nothing is kept.
unfoldable pub text_with : WrittenText → List ℕ → WrittenText
text_with buffer text =
    if buffer.fits && nat_le (buffer.used + length text) buffer.capacity
    then record buffer { text = buffer.text ++ text; used = buffer.used + length text }
    else record buffer { text = []; used = 0; fits = false }

-- An event adds its plain text, which may be none.
abbrev pub text_with_event : WrittenText → Event → WrittenText
text_with_event buffer event = text_with buffer (plain_text_of event)

-- An empty buffer that has at least the least size.
pub record IsEmptyBuffer (buffer : WrittenText) : Type 0 where
  pub text : buffer.text ≡ []
  pub used : buffer.used ≡ 0
  pub enough_room : min_text ≤ buffer.capacity
  pub fits : buffer.fits ≡ true

-- A call read the first n bytes and wrote their text into the caller's buffer.
pub record StripsMore (old new : TextWriter) (parser : Saved) (text stream bytes rest : List ℕ)
    (n : ℕ) : Type 0 where
  pub same_name : new.bytes.ghost_name ≡ old.bytes.ghost_name
  pub used_is : new.used ≡ length (take new.used new.bytes.now)
  pub strips :
      HasStripped parser (text ++ take new.used new.bytes.now) stream (drop n bytes ++ rest)

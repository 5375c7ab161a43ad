-- A line whose parts are appended one after another. It is kept only if all of them fit.
use Rattle.std.specs.Prelude.{if◌then◌else◌, IsTrue, length, List, not, take, true, ℕ, ◌&&◌, ◌++◌, ◌||◌, ◌≡◌}
use Rattle.event_log.specs.CollectedText.{has_room_after}
use Rattle.event_log.specs.declared.lines.LogBuffer.{LogBuffer}

-- A line begins after the bytes that are there.
pub record BeginsLine (old new : LogBuffer) : Type 0 where
  pub bytes : new.bytes.items ≡ old.bytes.items
  pub start : new.start ≡ length old.bytes.items
  pub fits : new.fits ≡ true
  pub lost : new.lost ≡ old.lost

-- A part of a line is appended if there is room and the line has fitted so far. The bytes that were
-- there stay.
pub record ExtendsLine (old : LogBuffer) (text : List ℕ) (new : LogBuffer) : Type 0 where
  pub start : new.start ≡ old.start
  pub fits : new.fits ≡ (old.fits && has_room_after old.bytes.items text)
  pub appended : IsTrue new.fits → new.bytes.items ≡ old.bytes.items ++ text
  pub kept : (more : List ℕ) × (new.bytes.items ≡ old.bytes.items ++ more)
  pub lost : new.lost ≡ old.lost

-- A line ends. If it doesn't fit, it is removed and counts as lost.
pub record EndsLine (old new : LogBuffer) : Type 0 where
  pub bytes : new.bytes.items
      ≡ (if old.fits then old.bytes.items else take old.start old.bytes.items)
  pub lost : new.lost ≡ (not old.fits || old.lost)

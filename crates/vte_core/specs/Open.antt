-- What is open at the end of a stream.
use Rattle.std.specs.Prelude.{Bool, false, List, None, Option, true, ℕ, [], ◌≡◌, ◌≢◌}
use Rattle.vte_core.specs.declared.parser.open.Open.{Open}
use Rattle.vte_core.specs.declared.parser.open.Open.TheVariants.{Character, ControlSequence, DeviceControl, EscapeSequence, IgnoredString, Nothing, SystemCommand}
use Rattle.vte_core.specs.Outcome.{CharacterToClose, CommandToClose, ControlSequenceToClose, DeviceDataToClose, DeviceHeadToClose, EscapeToClose, IgnoredStringToClose, NothingToClose, ToClose}
use Rattle.vte_core.specs.Stream.{IsClosed, IsOpen, outcome}

-- What `open` says of what is left to close. It doesn't tell the head and the data of a device
-- control string apart.
abbrev pub open_of : ToClose → Open
open_of NothingToClose = Nothing
open_of (CharacterToClose bytes) = Character
open_of EscapeToClose = EscapeSequence
open_of ControlSequenceToClose = ControlSequence
open_of DeviceHeadToClose = DeviceControl
open_of DeviceDataToClose = DeviceControl
open_of (CommandToClose pieces lost) = SystemCommand
open_of IgnoredStringToClose = IgnoredString

-- What the last body of the stream leaves open, or its text if it has no ESC. What is kept of
-- operating system commands has no effect on it.
unfoldable pub open_at_end : List ℕ → Open
open_at_end stream = open_of (outcome None stream).to_close

-- `open` of a parser that has read these streams.
pub record SaysOpen (limit : Option ℕ) (HasRead : List ℕ → Type 0) (result : Open) : Type 0 where
  pub kind : (stream : List ℕ) → HasRead stream → result ≡ open_at_end stream
  -- If nothing is, it goes on as a new parser, and more bytes give what they give on their own.
  pub closed : result ≡ Nothing → (stream : List ℕ) → HasRead stream
      → HasRead [] × IsClosed limit stream
  -- If something is, some bytes give something else than on their own: a `0`.
  pub opens : result ≢ Nothing → (stream : List ℕ) → HasRead stream → IsOpen limit stream

-- `is_open`, in the same way.
pub record SaysWhetherOpen (limit : Option ℕ) (HasRead : List ℕ → Type 0)
    (result : Bool) : Type 0 where
  pub closed : result ≡ false → (stream : List ℕ) → HasRead stream
      → HasRead [] × IsClosed limit stream
  pub opens : result ≡ true → (stream : List ℕ) → HasRead stream → IsOpen limit stream

-- Places in a text or a body at which a stream may end, what more bytes give there, and where they
-- lead, according to the grammar.
use Rattle.std.specs.List.{filter}
use Rattle.std.specs.Prelude.{List, Option, ℕ, [], ⊤, ◌++◌, ◌∷◌, ◌≡◌}
use Rattle.vte_core.specs.Body.{body_outcome}
use Rattle.vte_core.specs.Class.{class_of, ends_escape, ends_head, is_intermediate}
use Rattle.vte_core.specs.ControlSequence.{control_sequence_rest}
use Rattle.vte_core.specs.CutBefore.{cut_before}
use Rattle.vte_core.specs.DeviceControl.{device_control_rest, device_data_outcome}
use Rattle.vte_core.specs.Escape.{escape_rest}
use Rattle.vte_core.specs.Event.{Event}
use Rattle.vte_core.specs.Head.{head_bytes}
use Rattle.vte_core.specs.IgnoredString.{ignored_string_outcome}
use Rattle.vte_core.specs.Outcome.{CharacterToClose, closing_events, CommandToClose, ControlSequenceToClose, DeviceDataToClose, DeviceHeadToClose, EscapeToClose, IgnoredStringToClose, NothingToClose, Outcome, report, ToClose}
use Rattle.vte_core.specs.Stream.{cut_at_escape, events, outcome, with_bodies}
use Rattle.vte_core.specs.SystemCommand.{ends_system_command, items_of, loses_data, pieces_of, system_command_rest}
use Rattle.vte_core.specs.Text.{executed_events, text_outcome}

-- How far the grammar has come in a text or a body.
pub data Place : Type 0 where
  -- In a text, after these bytes of an open character.
  InText : List ℕ → Place
  -- After ESC.
  AtEscape : Place
  -- After ESC and these intermediates.
  InEscape : List ℕ → Place
  -- After ESC [ and this head.
  InControlSequence : List ℕ → Place
  -- After ESC P and this head.
  InDeviceControl : List ℕ → Place
  -- In the data of a hooked device control string.
  InDeviceData : Place
  -- After ESC ] and these items.
  InSystemCommand : List ℕ → Place
  -- In an ignored string.
  InIgnoredString : Place

-- No character is open.
abbrev pub IsSettledPlace : Place → Type 0
IsSettledPlace (InText bytes) = bytes ≡ []
IsSettledPlace _ = ⊤

-- The outcome of bytes after the intermediates of an escape sequence.
unfoldable pub escape_from : List ℕ → List ℕ → Outcome
escape_from intermediates bytes =
    let cut = cut_before (λ b. ends_escape (class_of b)) bytes in
    let all = intermediates ++ filter (λ b. is_intermediate (class_of b)) cut.before in
    report (executed_events cut.before) (escape_rest all cut.rest)

-- The outcome of bytes after the head of a control sequence.
unfoldable pub control_sequence_from : List ℕ → List ℕ → Outcome
control_sequence_from head bytes =
    let cut = cut_before (λ b. ends_head (class_of b)) bytes in
    report (executed_events cut.before)
    (control_sequence_rest (head ++ head_bytes cut.before) cut.rest)

-- The outcome of bytes after the head of a device control string.
unfoldable pub device_control_from : List ℕ → List ℕ → Outcome
device_control_from head bytes =
    let cut = cut_before (λ b. ends_head (class_of b)) bytes in
    device_control_rest (head ++ head_bytes cut.before) cut.rest

-- The outcome of bytes after the items of an operating system command.
unfoldable pub system_command_from : Option ℕ → List ℕ → List ℕ → Outcome
system_command_from limit items bytes =
    let cut = cut_before ends_system_command bytes in
    let all = items ++ items_of cut.before in
    system_command_rest (pieces_of limit all) (loses_data limit all) cut.rest

-- The outcome of the rest of the text or body.
abbrev pub rest_outcome : Option ℕ → Place → List ℕ → Outcome
rest_outcome limit (InText bytes) rest = text_outcome (bytes ++ rest)
rest_outcome limit AtEscape rest = body_outcome limit rest
rest_outcome limit (InEscape intermediates) rest = escape_from intermediates rest
rest_outcome limit (InControlSequence head) rest = control_sequence_from head rest
rest_outcome limit (InDeviceControl head) rest = device_control_from head rest
rest_outcome limit InDeviceData rest = device_data_outcome rest
rest_outcome limit (InSystemCommand items) rest = system_command_from limit items rest
rest_outcome limit InIgnoredString rest = ignored_string_outcome rest

-- What is open at the place.
abbrev pub to_close_at : Option ℕ → Place → ToClose
to_close_at limit (InText []) = NothingToClose
to_close_at limit (InText (a ∷ bytes)) = CharacterToClose (a ∷ bytes)
to_close_at limit AtEscape = EscapeToClose
to_close_at limit (InEscape intermediates) = EscapeToClose
to_close_at limit (InControlSequence head) = ControlSequenceToClose
to_close_at limit (InDeviceControl head) = DeviceHeadToClose
to_close_at limit InDeviceData = DeviceDataToClose
to_close_at limit (InSystemCommand items) = CommandToClose (pieces_of limit items)
    (loses_data limit items)
to_close_at limit InIgnoredString = IgnoredStringToClose

-- The events of an ESC at the place.
abbrev pub closing_events_at : Option ℕ → Place → List Event
closing_events_at limit place = closing_events (to_close_at limit place)

-- The outcome of more bytes, which may include ESC.
unfoldable pub outcome_from : Option ℕ → Place → List ℕ → Outcome
outcome_from limit place more =
    let cut = cut_at_escape more in
    with_bodies limit (rest_outcome limit place cut.text) cut.bodies

-- What follows the stream gives what it gives after the place.
pub record IsAfter (limit : Option ℕ) (stream : List ℕ) (place : Place) : Type 0 where
  pub same_outcomes : (more : List ℕ)
      → outcome limit (stream ++ more)
      ≡ report (events limit stream) (outcome_from limit place more)

-- The byte gives these events and leads to the next place, whatever follows.
pub record Leads (limit : Option ℕ) (place : Place) (byte : ℕ) (reported : List Event)
    (next : Place) : Type 0 where
  pub leads : (rest : List ℕ)
      → rest_outcome limit place (byte ∷ rest) ≡ report reported (rest_outcome limit next rest)

-- The bytes, which may include ESC, give these events and lead to the next place.
pub record BytesLead (limit : Option ℕ) (place : Place) (bytes : List ℕ) (reported : List Event)
    (next : Place) : Type 0 where
  pub leads : (more : List ℕ)
      → outcome_from limit place (bytes ++ more) ≡ report reported (outcome_from limit next more)

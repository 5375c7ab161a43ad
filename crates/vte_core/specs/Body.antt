-- A body: the bytes between one ESC and the next.
use Rattle.std.specs.Prelude.{if◌then◌else◌, List, Option, ℕ, [], ◌∷◌}
use Rattle.vte_core.specs.Class.{class_of, is_cancel, is_key}
use Rattle.vte_core.specs.ControlSequence.{control_sequence_outcome}
use Rattle.vte_core.specs.CutBefore.{cut_before}
use Rattle.vte_core.specs.DeviceControl.{device_control_outcome}
use Rattle.vte_core.specs.Escape.{escape_outcome}
use Rattle.vte_core.specs.Event.{Execute}
use Rattle.vte_core.specs.IgnoredString.{ignored_string_outcome}
use Rattle.vte_core.specs.Outcome.{EscapeToClose, leaves, Outcome, report}
use Rattle.vte_core.specs.SequenceKind.{ControlSequence, DeviceControl, EscapeSequence, IgnoredString, sequence_kind, SequenceKind, SystemCommand}
use Rattle.vte_core.specs.SystemCommand.{system_command_outcome}
use Rattle.vte_core.specs.Text.{executed_events, text_outcome}

-- The bytes after the key, read as the kind of sequence that the key selects.
abbrev pub sequence_outcome : Option ℕ → SequenceKind → ℕ → List ℕ → Outcome
sequence_outcome limit ControlSequence key bytes = control_sequence_outcome bytes
sequence_outcome limit DeviceControl key bytes = device_control_outcome bytes
sequence_outcome limit SystemCommand key bytes = system_command_outcome limit bytes
sequence_outcome limit IgnoredString key bytes = ignored_string_outcome bytes
sequence_outcome limit EscapeSequence key bytes = escape_outcome (key ∷ bytes)

-- The body from its key on. CAN and SUB are executed, and text follows. Without a key an escape
-- sequence stays open, whose kind isn't known yet.
abbrev pub body_rest : Option ℕ → List ℕ → Outcome
body_rest limit [] = leaves EscapeToClose
body_rest limit (key ∷ bytes) =
    if is_cancel (class_of key) then report (Execute key ∷ []) (text_outcome bytes)
    else sequence_outcome limit (sequence_kind key) key bytes

-- The key is the first byte among 20..7E, CAN and SUB. Before it, plain controls are executed and
-- everything else is dropped.
unfoldable pub body_outcome : Option ℕ → List ℕ → Outcome
body_outcome limit bytes =
    let cut = cut_before (λ b. is_key (class_of b)) bytes in
    report (executed_events cut.before) (body_rest limit cut.rest)

-- Device control strings (ECMA-48, section 8.3.27), after ESC P.
use Rattle.std.specs.List.{filter}
use Rattle.std.specs.Prelude.{Bool, if◌then◌else◌, List, map, ℕ, [], ◌==◌, ◌||◌, ◌∷◌}
use Rattle.vte_core.specs.Class.{class_of, ends_head, is_cancel, is_device_data}
use Rattle.vte_core.specs.CutBefore.{cut_before}
use Rattle.vte_core.specs.Event.{Event, Execute, Hook, Put, Unhook}
use Rattle.vte_core.specs.Head.{head_bytes, head_of, is_well_shaped, sequence_event}
use Rattle.vte_core.specs.IgnoredString.{ignored_string_outcome}
use Rattle.vte_core.specs.Outcome.{DeviceDataToClose, DeviceHeadToClose, leaves, Outcome, report}
use Rattle.vte_core.specs.Text.{text_outcome}

-- ST as a single byte. It is the only 8-bit control that is recognised outside text, and only in
-- these data.
abbrev pub string_terminator : ℕ
string_terminator = 0x9c

-- ESC ends the data too, but no body contains it.
abbrev pub ends_device_data : ℕ → Bool
ends_device_data b = is_cancel (class_of b) || b == string_terminator

-- ST unhooks. CAN and SUB unhook and are executed.
abbrev pub device_data_end : ℕ → List Event
device_data_end end = if is_cancel (class_of end) then Unhook ∷ Execute end ∷ [] else Unhook ∷ []

-- The end of the data, and the text that follows it. Without an end the data stay open.
abbrev pub device_data_rest : List ℕ → Outcome
device_data_rest [] = leaves DeviceDataToClose
device_data_rest (end ∷ text) = report (device_data_end end) (text_outcome text)

-- The data of a hooked string end at the first 9C, CAN or SUB. Plain controls and 20..7E are put,
-- and the rest is dropped.
unfoldable pub device_data_outcome : List ℕ → Outcome
device_data_outcome bytes =
    let cut = cut_before ends_device_data bytes in
    report (map Put (filter (λ b. is_device_data (class_of b)) cut.before))
    (device_data_rest cut.rest)

-- CAN and SUB are executed. A final byte hooks if the head is well shaped; otherwise the string is
-- ignored.
unfoldable pub device_control_after_head : List ℕ → ℕ → List ℕ → Outcome
device_control_after_head head end bytes =
    if is_cancel (class_of end) then report (Execute end ∷ []) (text_outcome bytes)
    else if is_well_shaped (head_of head)
    then report (sequence_event Hook (head_of head) end ∷ []) (device_data_outcome bytes)
    else ignored_string_outcome bytes

-- The end of the head, and the bytes that follow it. Without an end the head stays open.
abbrev pub device_control_rest : List ℕ → List ℕ → Outcome
device_control_rest head [] = leaves DeviceHeadToClose
device_control_rest head (end ∷ bytes) = device_control_after_head head end bytes

-- The head ends as that of a control sequence does, but plain controls in it are dropped.
unfoldable pub device_control_outcome : List ℕ → Outcome
device_control_outcome bytes =
    let cut = cut_before (λ b. ends_head (class_of b)) bytes in
    device_control_rest (head_bytes cut.before) cut.rest

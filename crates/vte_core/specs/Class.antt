-- The classes of bytes outside text (ECMA-48, VT500 parser).
use Rattle.std.specs.Prelude.{Bool, false, if◌then◌else◌, List, nat_lt, true, ℕ, [], ⊤, ◌==◌, ◌∷◌, ◌≡◌}

-- The ranges of bytes that the grammar distinguishes.
pub data Class : Type 0 where
  -- 00..17, 19, 1C..1F: plain controls, which are C0 except CAN, SUB and ESC.
  PlainControl : Class
  -- 18, 1A: CAN and SUB, which cancel the current sequence.
  Cancel : Class
  -- 1B: ESC, which ends the current sequence and starts another.
  Escape : Class
  -- 20..2F
  Intermediate : Class
  -- 30..39
  Digit : Class
  -- 3A
  Colon : Class
  -- 3B
  Semicolon : Class
  -- 3C..3F
  Marker : Class
  -- 40..7E
  Final : Class
  -- 7F
  Delete : Class
  -- 80..FF
  High : Class

-- 80..FF are one class, whatever they mean in text.
unfoldable pub class_of : ℕ → Class
class_of b =
    if nat_lt b 0x18 then PlainControl
    else if b == 0x18 then Cancel
    else if b == 0x19 then PlainControl
    else if b == 0x1a then Cancel
    else if b == 0x1b then Escape
    else if nat_lt b 0x20 then PlainControl
    else if nat_lt b 0x30 then Intermediate
    else if nat_lt b 0x3a then Digit
    else if b == 0x3a then Colon
    else if b == 0x3b then Semicolon
    else if nat_lt b 0x40 then Marker
    else if nat_lt b 0x7f then Final
    else if b == 0x7f then Delete
    else High

-- 00..17, 19, 1C..1F
abbrev pub is_plain_control : Class → Bool
is_plain_control PlainControl = true
is_plain_control _ = false

-- CAN and SUB.
abbrev pub is_cancel : Class → Bool
is_cancel Cancel = true
is_cancel _ = false

-- CAN, SUB and ESC.
abbrev pub ends_sequence : Class → Bool
ends_sequence Cancel = true
ends_sequence Escape = true
ends_sequence _ = false

-- 20..2F
abbrev pub is_intermediate : Class → Bool
is_intermediate Intermediate = true
is_intermediate _ = false

-- 30..3B
abbrev pub is_parameter_byte : Class → Bool
is_parameter_byte Digit = true
is_parameter_byte Colon = true
is_parameter_byte Semicolon = true
is_parameter_byte _ = false

-- 3C..3F
abbrev pub is_marker : Class → Bool
is_marker Marker = true
is_marker _ = false

-- 20..3F
abbrev pub is_head_byte : Class → Bool
is_head_byte Intermediate = true
is_head_byte Digit = true
is_head_byte Colon = true
is_head_byte Semicolon = true
is_head_byte Marker = true
is_head_byte _ = false

-- 40..7E
abbrev pub is_final : Class → Bool
is_final Final = true
is_final _ = false

-- Cancel, Final and those of a head (18, 1A, 20..7E): the byte that selects the kind of a sequence.
abbrev pub is_key : Class → Bool
is_key Cancel = true
is_key Final = true
is_key class = is_head_byte class

-- 30..7E, CAN and SUB: the end of an escape sequence.
abbrev pub ends_escape : Class → Bool
ends_escape Intermediate = false
ends_escape class = is_key class

-- 30..7E: the final byte of an escape sequence.
abbrev pub dispatches_escape : Class → Bool
dispatches_escape Cancel = false
dispatches_escape class = ends_escape class

-- 40..7E, CAN and SUB: the end of the head of a control sequence or a device control string.
abbrev pub ends_head : Class → Bool
ends_head Cancel = true
ends_head Final = true
ends_head _ = false

-- Plain controls and 20..7E: the data of a device control string.
abbrev pub is_device_data : Class → Bool
is_device_data PlainControl = true
is_device_data Final = true
is_device_data class = is_head_byte class

-- Among the data of a device control string, the byte is put.
abbrev pub IsDeviceData : ℕ → Type 0
IsDeviceData b = is_device_data (class_of b) ≡ true

-- Each byte is in the class.
abbrev pub AreInClass : (Class → Bool) → List ℕ → Type 0
AreInClass has [] = ⊤
AreInClass has (b ∷ bytes) = (has (class_of b) ≡ true) × AreInClass has bytes

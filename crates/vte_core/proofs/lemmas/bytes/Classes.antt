-- Which bytes a class has, and what the tests of a byte's class say together: by cases of the class, of which most are
-- absurd.
use Rattle.vte_core.proofs.Common.{AreInClass, arith, Bool, Cancel, Class, class_of, Colon, Delete, Digit, dispatches_escape, ends_device_data, ends_head, ends_sequence, EscapeSequence, false, Final, High, if◌then◌else◌, Intermediate, is_cancel, is_device_data, is_final, is_head_byte, is_intermediate, is_parameter_byte, is_plain_control, IsCommandData, List, Marker, nat_tests, ne_eqb, PlainControl, refl, rules, Semicolon, sequence_kind, true, ℕ, [], ◌++◌, ◌<◌, ◌∷◌, ◌≡◌, ◌≤◌}
use Rattle.vte_core.specs.Class.{Escape}
use Rattle.vte_core.specs.SequenceKind.{begins_ignored_string, IgnoredString}

-- ---- the bytes of a class

-- Bounds of each, by the tests of `class_of`, which ask in ascending order.

-- The range in which the bytes of a class are.
abbrev pub Spans : Class → ℕ → Type 0
Spans PlainControl b = b < 0x20
Spans Cancel b = b < 0x20
Spans Escape b = b ≡ 0x1b
Spans Intermediate b = (0x20 ≤ b) × (b < 0x30)
Spans Digit b = (0x30 ≤ b) × (b < 0x3a)
Spans Colon b = b ≡ 0x3a
Spans Semicolon b = b ≡ 0x3b
Spans Marker b = (0x3c ≤ b) × (b < 0x40)
Spans Final b = (0x40 ≤ b) × (b < 0x7f)
Spans Delete b = b ≡ 0x7f
Spans High b = 0x80 ≤ b

class_of-spans : (b : ℕ) → Spans (class_of b) b
unfolding class_of
class_of-spans b = grind (arith, nat_tests)

-- A byte is in the range of its class.
pub spans : (b : ℕ) {class : Class} → class_of b ≡ class → Spans class b
spans b is_class = rw is_class at (class_of-spans b)

-- A byte of a head is below each final byte.
pub head_byte_below_40 : (b : ℕ) → is_head_byte (class_of b) ≡ true → b < 0x40
unfolding class_of
head_byte_below_40 b is_head = grind (arith, nat_tests)

-- ---- keys

-- Which keys after ESC begin no other shape than an escape sequence, and which bytes mean nothing there or in a head.

-- A class of bytes that are dropped after ESC.
abbrev pub is_dropped : Class → Bool
is_dropped Delete = true
is_dropped High = true
is_dropped _ = false

-- A class of bytes that are dropped in the head of a device control string.
abbrev pub is_dropped_in_head : Class → Bool
is_dropped_in_head PlainControl = true
is_dropped_in_head class = is_dropped class

-- Keys other than [, P and ] begin an ignored string or an escape sequence.
pub other_key : (b : ℕ) → (b ≡ 0x5b → ⊥) → (b ≡ 0x50 → ⊥) → (b ≡ 0x5d → ⊥)
    → sequence_kind b ≡ (if begins_ignored_string b then IgnoredString else EscapeSequence)
unfolding sequence_kind
other_key b no_bracket no_device_control no_command =
    simp (ne_eqb b 0x5b no_bracket, ne_eqb b 0x50 no_device_control, ne_eqb b 0x5d no_command)

-- The keys of all other shapes are final bytes.
pub below_40_is_escape_sequence : (b : ℕ) → b < 0x40 → sequence_kind b ≡ EscapeSequence
unfolding sequence_kind
below_40_is_escape_sequence b below = search (rules, arith)

-- ---- texts of bytes of the same classes join

pub AreInClass-append : (has : Class → Bool) (prefix rest : List ℕ) → AreInClass has prefix → AreInClass has rest
    → AreInClass has (prefix ++ rest)
AreInClass-append has [] rest prefix_in rest_in = rest_in
AreInClass-append has (b ∷ prefix) rest prefix_in rest_in =
    (prefix_in.0, AreInClass-append has prefix rest prefix_in.1 rest_in)

-- ---- tests that only one class passes

pub class-control : (class : Class) → is_plain_control class ≡ true → class ≡ PlainControl
class-control PlainControl control = refl
class-control _ control = cc

pub class-intermediate : (class : Class) → is_intermediate class ≡ true → class ≡ Intermediate
class-intermediate Intermediate intermediate = refl
class-intermediate _ intermediate = cc

pub class-final : (class : Class) → is_final class ≡ true → class ≡ Final
class-final Final final = refl
class-final _ final = cc

-- ---- bytes that end no body; those that do are CAN, SUB and ESC

pub head_ends_nothing : (class : Class) → is_head_byte class ≡ true → ends_sequence class ≡ false
head_ends_nothing class is_head = search (rules, arith)

pub dispatch_ends_nothing : (class : Class) → dispatches_escape class ≡ true → ends_sequence class ≡ false
dispatch_ends_nothing class dispatches = search (rules, arith)

pub data_ends_nothing : (class : Class) → is_device_data class ≡ true → ends_sequence class ≡ false
data_ends_nothing class is_data = search (rules, arith)

pub final_ends_nothing : (class : Class) → is_final class ≡ true → ends_sequence class ≡ false
final_ends_nothing Final final = refl
final_ends_nothing _ final = cc

-- A byte that ends a body and isn't ESC is CAN or SUB.
pub ends_by_cancel : (b : ℕ) → ends_sequence (class_of b) ≡ true → (b ≡ 0x1b → ⊥) → class_of b ≡ Cancel
unfolding class_of
ends_by_cancel b ends is_no_escape = grind (arith, nat_tests)

pub ends_not_cancel : (class : Class) → ends_sequence class ≡ false → is_cancel class ≡ false
ends_not_cancel Cancel no_end = cc
ends_not_cancel _ no_end = refl

-- ---- bytes of a head

-- It is neither executed nor the end of the head.
pub head_is_no_control : (class : Class) → is_head_byte class ≡ true → is_plain_control class ≡ false
head_is_no_control PlainControl is_head = cc
head_is_no_control _ is_head = refl

pub head_is_no_end : (class : Class) → is_head_byte class ≡ true → ends_head class ≡ false
head_is_no_end class is_head = search (rules, arith)

pub parameter_is_head : (class : Class) → is_parameter_byte class ≡ true → is_head_byte class ≡ true
parameter_is_head class parameter = search (rules, arith)

-- ---- the class that is left if others are excluded

-- After ESC, a byte of a head that is no intermediate (30..3F) ends an escape sequence.
pub other_dispatches : (class : Class) → is_head_byte class ≡ true → is_intermediate class ≡ false
    → dispatches_escape class ≡ true
other_dispatches class is_head no_intermediate = search (rules, arith)

-- Past the bytes of a head, final bytes, CAN, SUB, ESC and other controls, only DEL and 80..FF are left: dropped.
pub other_is_dropped : (class : Class) → is_head_byte class ≡ false → is_final class ≡ false
    → ends_sequence class ≡ false
    → is_plain_control class ≡ false
    → is_dropped class ≡ true
other_is_dropped class no_head no_final no_end no_control = search (rules, arith)

-- The same holds after ESC and intermediates, where 30..7E end the sequence.
pub other_than_intermediate : (class : Class) → is_intermediate class ≡ false → dispatches_escape class ≡ false
    → ends_sequence class ≡ false
    → is_plain_control class ≡ false → is_dropped class ≡ true
other_than_intermediate class no_intermediate no_dispatch no_end no_control = search (rules, arith)

-- In the head of a device control string, bytes of C0 are dropped too.
pub other_in_head : (class : Class) → is_head_byte class ≡ false → is_final class ≡ false → ends_sequence class ≡ false
    → is_dropped_in_head class ≡ true
other_in_head class no_head no_final no_end = search (rules, arith)

-- A byte other than CAN, SUB, ESC and 9C doesn't end the data of a device control string.
pub ends_no_data : (b : ℕ) → ends_sequence (class_of b) ≡ false → (b ≡ 0x9c → ⊥) → ends_device_data b ≡ false
ends_no_data b no_end no_terminator = search (rules, arith)

pub terminator_is_high : {b : ℕ} → b ≡ 0x9c → class_of b ≡ High
unfolding class_of
terminator_is_high is_terminator = rw is_terminator refl

-- In an operating system command, a byte that ends nothing and is neither data nor `;` is a control.
pub other_is_control : (b : ℕ) → ends_sequence (class_of b) ≡ false → (IsCommandData b → ⊥) → (b ≡ 0x3b → ⊥)
    → class_of b ≡ PlainControl
unfolding class_of
other_is_control b no_end no_data no_separator = grind (arith, nat_tests)

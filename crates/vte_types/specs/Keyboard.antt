-- Keyboard modes and their bits (the kitty keyboard protocol).
use Rattle.std.specs.Int.RustNames.{bit_and}
use Rattle.std.specs.Prelude.{codes, List, ℕ, [], ◌-◌, ◌∷◌}
use Rattle.vte_types.specs.declared.keyboard.KeyboardModes.{KeyboardModes}

-- A set of modes is a byte of flags.
abbrev pub bits_of : KeyboardModes → ℕ
bits_of modes = modes.0

-- Bits that belong to no flag are kept, too.
abbrev pub modes_of_bits : ℕ → KeyboardModes
modes_of_bits bits = record { 0 = bits }

-- The flags by name, and their bits.
abbrev pub keyboard_flags : List (List ℕ × ℕ)
keyboard_flags =
    (codes "NO_MODE", 0x00) ∷
    (codes "DISAMBIGUATE_ESC_CODES", 0x01) ∷
    (codes "REPORT_EVENT_TYPES", 0x02) ∷
    (codes "REPORT_ALTERNATE_KEYS", 0x04) ∷
    (codes "REPORT_ALL_KEYS_AS_ESC", 0x08) ∷
    (codes "REPORT_ASSOCIATED_TEXT", 0x10) ∷
    []

-- The bits of all flags.
abbrev pub all_bits : ℕ
all_bits = 0x1f

-- The bits of a byte that aren't in another.
abbrev pub without : ℕ → ℕ → ℕ
without bits other = bit_and bits (0xff - other)

-- Colours by their components: sums and differences, and texts.
use Rattle.std.specs.Char.{digit_value}
use Rattle.std.specs.Fmt.{digit_glyph}
use Rattle.std.specs.Prelude.{codes, false, if◌then◌else◌, List, min, nat_lt, None, Option, Some, ℕ, [], ◌%◌, ◌*◌, ◌++◌, ◌+◌, ◌-◌, ◌/◌, ◌∷◌}
use Rattle.vte_types.specs.declared.color.Rgb.{Rgb}
use Rattle.vte_types.specs.Words.{read_by}

-- ---- sums and differences, by component

-- A component above 255 becomes 255.
abbrev pub sum_of : Rgb → Rgb → Rgb
sum_of a b = record { r = min (a.r + b.r) 255; g = min (a.g + b.g) 255; b = min (a.b + b.b) 255 }

-- A component below 0 becomes 0, as `-` of natural numbers has it.
abbrev pub difference_of : Rgb → Rgb → Rgb
difference_of a b = record { r = a.r - b.r; g = a.g - b.g; b = a.b - b.b }

-- ---- hex digits, in upper or lower case

-- `number` with more hex digits after it, or none if a byte isn't a hex digit.
abbrev pub hex_from : ℕ → List ℕ → Option ℕ
hex_from number [] = Some number
hex_from number (byte ∷ bytes) =
    if nat_lt (digit_value byte) 16 then hex_from (16 * number + digit_value byte) bytes else None

-- The number that the hex digits write.
abbrev pub hex_number : List ℕ → Option ℕ
hex_number digits = hex_from 0 digits

-- ---- texts

-- `0x` or `#`, then six hex digits, two per component.

-- The colour of three components, if all are there.
abbrev pub color_by : Option ℕ → Option ℕ → Option ℕ → Option Rgb
color_by (Some r) (Some g) (Some b) = Some (record { r = r; g = g; b = b })
color_by _ _ _ = None

-- The colour of six hex digits, or none if the bytes aren't six hex digits.
abbrev pub color_of_six : List ℕ → Option Rgb
color_of_six (r ∷ s ∷ g ∷ h ∷ b ∷ c ∷ []) =
    color_by (hex_number (r ∷ s ∷ [])) (hex_number (g ∷ h ∷ [])) (hex_number (b ∷ c ∷ []))
color_of_six _ = None

-- The prefixes of a colour, and what reads the rest.
abbrev pub hex_forms : List (List ℕ × (List ℕ → Option Rgb))
hex_forms = (codes "0x", color_of_six) ∷ (codes "#", color_of_six) ∷ []

-- The result of `from_str`.
abbrev pub hex_color_of : List ℕ → Option Rgb
hex_color_of text = read_by hex_forms text

-- A byte as two lower-case hex digits.
abbrev pub shown_byte : ℕ → List ℕ
shown_byte byte = digit_glyph false (byte / 16) ∷ digit_glyph false (byte % 16) ∷ []

-- What `Display` writes: `#` and two digits per component.
abbrev pub shown_color : Rgb → List ℕ
shown_color color = 0x23 ∷ (shown_byte color.r ++ (shown_byte color.g ++ shown_byte color.b))

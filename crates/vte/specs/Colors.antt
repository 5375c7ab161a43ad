-- Colours as numbers and as texts.
use Rattle.std.specs.Prelude.{Bool, codes, drop, if◌then◌else◌, length, List, nat_le, nat_lt, None, Option, option_map, Some, suc, take, take_while, ℕ, [], ◌&&◌, ◌*◌, ◌-◌, ◌/◌, ◌==◌, ◌^◌, ◌∷◌}
use Rattle.vte.specs.Split.{split_by}
use Rattle.vte_types.specs.declared.color.Color.{Color}
use Rattle.vte_types.specs.declared.color.Color.TheVariants.{Indexed, Spec}
use Rattle.vte_types.specs.declared.color.Rgb.{Rgb}
use Rattle.vte_types.specs.Rgb.{color_by, hex_number}
use Rattle.vte_types.specs.Words.{entry_of, read_by, Row}

-- ---- as numbers

-- 2 and three components, or 5 and an index (ISO 8613-6, xterm).

-- How many components a kind of colour has: red, green and blue, or an index of the palette.
abbrev pub component_counts : List (Row ℕ)
component_counts = (2, 3) ∷ (5, 1) ∷ []

-- The colour of these components.
abbrev pub color_of_numbers : List ℕ → Option Color
color_of_numbers (r ∷ g ∷ b ∷ []) = Some (Spec (record { r = r; g = g; b = b }))
color_of_numbers (index ∷ []) = Some (Indexed index)
color_of_numbers _ = None

-- An index of the palette is one too.
abbrev pub is_component : ℕ → Bool
is_component number = nat_lt number 256

-- The result of reading a colour: the colour, if any, and how many numbers were used.
pub record ReadColor : Type 0 where
  pub color : Option Color
  pub used : ℕ

-- Too few components after a kind: either no number is left, or the next is above 255 and is used
-- too.
abbrev pub failed_reading : ℕ → List ℕ → ReadColor
failed_reading found [] = record { color = None; used = found }
failed_reading found (number ∷ numbers) = record { color = None; used = suc found }

-- The components are the numbers up to 255 at the start, at most as many as the kind has.
abbrev pub components_reading : ℕ → List ℕ → ReadColor
components_reading count numbers =
    let components = take_while is_component (take count numbers) in
    if length components == count then record { color = color_of_numbers components; used = count }
    else failed_reading (length components) (drop (length components) numbers)

-- An unknown kind has no components, and uses none of the numbers after it.
abbrev pub counted_reading : Option ℕ → List ℕ → ReadColor
counted_reading None numbers = record { color = None; used = 0 }
counted_reading (Some count) numbers = components_reading count numbers

-- A colour of this kind.
abbrev pub kind_reading : ℕ → List ℕ → ReadColor
kind_reading kind numbers = counted_reading (entry_of component_counts kind) numbers

-- The kind is used even if it is unknown.
abbrev pub color_reading : List ℕ → ReadColor
color_reading [] = record { color = None; used = 0 }
color_reading (kind ∷ numbers) =
    let reading = kind_reading kind numbers in
    record { color = reading.color; used = suc reading.used }

-- The numbers after 38, 48 or 58 in one group. If there are more than four, the second, a colour
-- space, is skipped.
abbrev pub without_color_space : List ℕ → List ℕ
without_color_space (kind ∷ space ∷ numbers) =
    if nat_lt 2 (length numbers) then kind ∷ numbers else kind ∷ space ∷ numbers
without_color_space numbers = numbers

-- ---- as texts

-- As X11's XParseColor reads them.

-- One to four digits.
abbrev pub is_component_length : ℕ → Bool
is_component_length count = nat_le 1 count && nat_le count 4

-- A number scaled so that the greatest with this many digits becomes 255.
abbrev pub scaled_to_255 : ℕ → ℕ → ℕ
scaled_to_255 count number = 255 * number / (16 ^ count - 1)

-- The top eight bits of a number with this many digits.
abbrev pub top_eight_bits : ℕ → ℕ → ℕ
top_eight_bits count number = 256 * number / 16 ^ count

-- A component of one to four hex digits, converted by `value`.
abbrev pub component_by : (ℕ → ℕ → ℕ) → List ℕ → Option ℕ
component_by value digits =
    if is_component_length (length digits)
    then option_map (λ number. value (length digits) number) (hex_number digits) else None

-- r/g/b
abbrev pub color_of_parts : List (List ℕ) → Option Rgb
color_of_parts (r ∷ g ∷ b ∷ []) =
    color_by (component_by scaled_to_255 r) (component_by scaled_to_255 g)
    (component_by scaled_to_255 b)
color_of_parts _ = None

-- Three components with the same number of digits.
abbrev pub color_of_thirds : List ℕ → Option Rgb
color_of_thirds digits =
    let count = length digits / 3 in
    if length digits == 3 * count
    then color_by (component_by top_eight_bits (take count digits))
    (component_by top_eight_bits (take count (drop count digits)))
    (component_by top_eight_bits (drop (2 * count) digits))
    else None

-- `rgb:` and three components, or `#` and three components with the same number of digits.
abbrev pub xparse_forms : List (List ℕ × (List ℕ → Option Rgb))
xparse_forms =
    (codes "rgb:", λ text. color_of_parts (split_by 0x2f text)) ∷
    (codes "#", color_of_thirds) ∷
    []

-- Any other text is no colour: names of colours and `rgbi:` aren't supported.
abbrev pub xparse_color_of : List ℕ → Option Rgb
xparse_color_of text = read_by xparse_forms text

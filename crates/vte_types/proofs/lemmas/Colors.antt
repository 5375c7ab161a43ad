-- A colour that is shown is read back, digit by digit; shades undo each other, and a table reads a named colour back
-- from its number.
use Rattle.std.proofs.Common.{ap, arith, false, None, refl, Some, true, ℕ, ◌%◌, ◌*◌, ◌+◌, ◌/◌, ◌<◌, ◌≡◌}
use Rattle.std.proofs.lemmas.Bool.Decides.{nat_tests}
use Rattle.std.proofs.lemmas.Str.{digit_value-digit_char}
use Rattle.std.specs.Char.{digit_value}
use Rattle.std.specs.Fmt.{digit_glyph}
use Rattle.std.specs.Prelude.{if◌then◌else◌, List, nat_lt, [], ◌∷◌}
use Rattle.vte_types.specs.declared.color.NamedColor.{NamedColor}
use Rattle.vte_types.specs.declared.color.NamedColor.TheVariants.{Background, Black, Blue, BrightBlack, BrightBlue, BrightCyan, BrightForeground, BrightGreen, BrightMagenta, BrightRed, BrightWhite, BrightYellow, Cursor, Cyan, DimBlack, DimBlue, DimCyan, DimForeground, DimGreen, DimMagenta, DimRed, DimWhite, DimYellow, Foreground, Green, Magenta, Red, White, Yellow}
use Rattle.vte_types.specs.declared.color.Rgb.{Rgb}
use Rattle.vte_types.specs.NamedColor.{bright_of, dim_of, is_bright, is_dim, number_of_color}
use Rattle.vte_types.specs.Rgb.{hex_color_of, hex_number, shown_byte, shown_color}
use Rattle.vte_types.specs.Words.{entry_of, Row}

-- ---- texts

digit_value-glyph : (digit : ℕ) → digit < 16 → digit_value (digit_glyph false digit) ≡ digit
digit_value-glyph digit below = digit_value-digit_char digit (omega (arith, below))

hex_number-digits : (high low byte : ℕ) → high < 16 → low < 16 → 16 * high + low ≡ byte
    → (if nat_lt high 16 then if nat_lt low 16 then Some (16 * (16 * 0 + high) + low) else None else None) ≡ Some byte
hex_number-digits high low byte high_below low_below sum =
    let high_is_digit : nat_lt high 16 ≡ true = grind (arith, nat_tests) in
    let low_is_digit : nat_lt low 16 ≡ true = grind (arith, nat_tests) in
    let same : 16 * (16 * 0 + high) + low ≡ byte = omega arith in
    rw (high_is_digit, low_is_digit) (ap Some same)

hex_number-shown : (byte : ℕ) → byte < 256 → hex_number (shown_byte byte) ≡ Some byte
hex_number-shown byte fits =
    rw (digit_value-glyph (byte / 16) (omega (arith, fits)), digit_value-glyph (byte % 16) (omega (arith, fits)))
    (hex_number-digits (byte / 16) (byte % 16) byte (omega (arith, fits)) (omega (arith, fits))
    (omega (arith, fits)))

-- A colour is read back from what is shown of it.
pub hex_color_of-shown : (color : Rgb) → color.r < 256 → color.g < 256 → color.b < 256
    → hex_color_of (shown_color color) ≡ Some color
hex_color_of-shown color red_fits green_fits blue_fits =
    rw (
      hex_number-shown color.r red_fits,
      hex_number-shown color.g green_fits,
      hex_number-shown color.b blue_fits,
    ) refl

-- ---- named colours

-- The proofs are by cases of the colour.

-- A colour that isn't the brightest of its shades comes back.
pub dim_of-bright : (color : NamedColor) → is_bright color ≡ false → dim_of (bright_of color) ≡ color
unfolding number_of_color
dim_of-bright BrightBlack other = cc
dim_of-bright BrightRed other = cc
dim_of-bright BrightGreen other = cc
dim_of-bright BrightYellow other = cc
dim_of-bright BrightBlue other = cc
dim_of-bright BrightMagenta other = cc
dim_of-bright BrightCyan other = cc
dim_of-bright BrightWhite other = cc
dim_of-bright BrightForeground other = cc
dim_of-bright color other = refl

-- A colour that isn't the dimmest of its shades comes back.
pub bright_of-dim : (color : NamedColor) → is_dim color ≡ false → bright_of (dim_of color) ≡ color
unfolding number_of_color
bright_of-dim DimBlack other = cc
bright_of-dim DimRed other = cc
bright_of-dim DimGreen other = cc
bright_of-dim DimYellow other = cc
bright_of-dim DimBlue other = cc
bright_of-dim DimMagenta other = cc
bright_of-dim DimCyan other = cc
bright_of-dim DimWhite other = cc
bright_of-dim DimForeground other = cc
bright_of-dim color other = refl

-- Each number has its colour.
color_table : List (Row NamedColor)
color_table =
    (0, Black) ∷ (1, Red) ∷ (2, Green) ∷ (3, Yellow) ∷ (4, Blue) ∷ (5, Magenta) ∷ (6, Cyan) ∷ (7, White)
    ∷ (8, BrightBlack) ∷
    (9, BrightRed) ∷ (10, BrightGreen) ∷ (11, BrightYellow) ∷ (12, BrightBlue) ∷ (13, BrightMagenta) ∷ (14, BrightCyan)
    ∷ (15, BrightWhite) ∷
    (256, Foreground) ∷ (257, Background) ∷ (258, Cursor) ∷ (259, DimBlack) ∷ (260, DimRed) ∷ (261, DimGreen)
    ∷ (262, DimYellow) ∷ (263, DimBlue) ∷
    (264, DimMagenta) ∷ (265, DimCyan) ∷ (266, DimWhite) ∷ (267, BrightForeground) ∷ (268, DimForeground) ∷ []

row_of : (color : NamedColor) → entry_of color_table (number_of_color color) ≡ Some color
unfolding number_of_color color_table
row_of Black = refl
row_of color = refl

-- No two colours have one number.
pub number_decides : (a b : NamedColor) → number_of_color a ≡ number_of_color b → a ≡ b
number_decides a b same_number =
    let row_a = row_of a in let row_b = row_of b in let same_row = ap (entry_of color_table) same_number in cc

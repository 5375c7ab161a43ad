-- The numbers of named colours, their index in a palette, or 256 and up; and their shades.
use Rattle.std.specs.List.{list_any}
use Rattle.std.specs.Prelude.{Bool, if◌then◌else◌, List, ℕ, [], ◌==◌, ◌∷◌}
use Rattle.vte_types.specs.declared.color.NamedColor.{NamedColor}
use Rattle.vte_types.specs.declared.color.NamedColor.TheVariants.{Background, Black, Blue, BrightBlack, BrightBlue, BrightCyan, BrightForeground, BrightGreen, BrightMagenta, BrightRed, BrightWhite, BrightYellow, Cursor, Cyan, DimBlack, DimBlue, DimCyan, DimForeground, DimGreen, DimMagenta, DimRed, DimWhite, DimYellow, Foreground, Green, Magenta, Red, White, Yellow}

-- ---- numbers

-- The number that `as` gives, by which colours are equal and ordered.
unfoldable pub number_of_color : NamedColor → ℕ
number_of_color Black = 0
number_of_color Red = 1
number_of_color Green = 2
number_of_color Yellow = 3
number_of_color Blue = 4
number_of_color Magenta = 5
number_of_color Cyan = 6
number_of_color White = 7
number_of_color BrightBlack = 8
number_of_color BrightRed = 9
number_of_color BrightGreen = 10
number_of_color BrightYellow = 11
number_of_color BrightBlue = 12
number_of_color BrightMagenta = 13
number_of_color BrightCyan = 14
number_of_color BrightWhite = 15
number_of_color Foreground = 256
number_of_color Background = 257
number_of_color Cursor = 258
number_of_color DimBlack = 259
number_of_color DimRed = 260
number_of_color DimGreen = 261
number_of_color DimYellow = 262
number_of_color DimBlue = 263
number_of_color DimMagenta = 264
number_of_color DimCyan = 265
number_of_color DimWhite = 266
number_of_color BrightForeground = 267
number_of_color DimForeground = 268

-- ---- shades

-- The shades of a colour, from dim to bright.
abbrev pub Shades : Type 0
Shades = NamedColor × NamedColor × NamedColor

-- Background and cursor have no other shade.
abbrev pub shades : List Shades
shades =
    (DimBlack, Black, BrightBlack) ∷
    (DimRed, Red, BrightRed) ∷
    (DimGreen, Green, BrightGreen) ∷
    (DimYellow, Yellow, BrightYellow) ∷
    (DimBlue, Blue, BrightBlue) ∷
    (DimMagenta, Magenta, BrightMagenta) ∷
    (DimCyan, Cyan, BrightCyan) ∷
    (DimWhite, White, BrightWhite) ∷
    (DimForeground, Foreground, BrightForeground) ∷
    []

-- Colours are the same if their numbers are.
abbrev pub is_color : NamedColor → NamedColor → Bool
is_color a b = number_of_color a == number_of_color b

-- One shade brighter; the brightest stays as it is.
abbrev pub brighter : List Shades → NamedColor → NamedColor
brighter [] color = color
brighter (row ∷ rows) color =
    if is_color color row.0 then row.1 else if is_color color row.1 then row.2
    else brighter rows color

-- One shade dimmer; the dimmest stays as it is.
abbrev pub dimmer : List Shades → NamedColor → NamedColor
dimmer [] color = color
dimmer (row ∷ rows) color =
    if is_color color row.2 then row.1 else if is_color color row.1 then row.0
    else dimmer rows color

-- The result of `to_bright`.
abbrev pub bright_of : NamedColor → NamedColor
bright_of color = brighter shades color

-- The result of `to_dim`.
abbrev pub dim_of : NamedColor → NamedColor
dim_of color = dimmer shades color

-- The brightest shade of some colour.
abbrev pub is_bright : NamedColor → Bool
is_bright color = list_any (λ row. is_color color row.2) shades

-- The dimmest shade of some colour.
abbrev pub is_dim : NamedColor → Bool
is_dim color = list_any (λ row. is_color color row.0) shades

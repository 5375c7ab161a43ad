-- Select graphic rendition: the attributes of groups (ECMA-48, section 8.3.117; xterm).
use Rattle.std.specs.Prelude.{if◌then◌else◌, List, map, None, Option, option_map, option_to_list, Some, suc, unwrap_or, zero, ℕ, [], ◌++◌, ◌==◌, ◌∷◌}
use Rattle.vte.specs.Colors.{color_reading, without_color_space}
use Rattle.vte.specs.Numbers.{first_numbers}
use Rattle.vte_handler.specs.Call.{Call, TerminalAttribute}
use Rattle.vte_types.specs.declared.color.Attr.{Attr}
use Rattle.vte_types.specs.declared.color.Attr.TheVariants as attr
use Rattle.vte_types.specs.declared.color.Color.{Color}
use Rattle.vte_types.specs.declared.color.Color.TheVariants.{Named}
use Rattle.vte_types.specs.declared.color.NamedColor.{NamedColor}
use Rattle.vte_types.specs.declared.color.NamedColor.TheVariants as named
use Rattle.vte_types.specs.Words.{entry_of, Row}

-- A named colour for the text.
abbrev pub foreground : NamedColor → Attr
foreground color = attr.Foreground (Named color)

-- A named colour behind the text.
abbrev pub background : NamedColor → Attr
background color = attr.Background (Named color)

-- Groups of one number.
abbrev pub attribute_table : List (Row Attr)
attribute_table =
    (0, attr.Reset) ∷
    (1, attr.Bold) ∷
    (2, attr.Dim) ∷
    (3, attr.Italic) ∷
    (4, attr.Underline) ∷
    (5, attr.BlinkSlow) ∷
    (6, attr.BlinkFast) ∷
    (7, attr.Reverse) ∷
    (8, attr.Hidden) ∷
    (9, attr.Strike) ∷
    (21, attr.CancelBold) ∷
    (22, attr.CancelBoldDim) ∷
    (23, attr.CancelItalic) ∷
    (24, attr.CancelUnderline) ∷
    (25, attr.CancelBlink) ∷
    (27, attr.CancelReverse) ∷
    (28, attr.CancelHidden) ∷
    (29, attr.CancelStrike) ∷
    (30, foreground named.Black) ∷
    (31, foreground named.Red) ∷
    (32, foreground named.Green) ∷
    (33, foreground named.Yellow) ∷
    (34, foreground named.Blue) ∷
    (35, foreground named.Magenta) ∷
    (36, foreground named.Cyan) ∷
    (37, foreground named.White) ∷
    (39, foreground named.Foreground) ∷
    (40, background named.Black) ∷
    (41, background named.Red) ∷
    (42, background named.Green) ∷
    (43, background named.Yellow) ∷
    (44, background named.Blue) ∷
    (45, background named.Magenta) ∷
    (46, background named.Cyan) ∷
    (47, background named.White) ∷
    (49, background named.Background) ∷
    (59, attr.UnderlineColor None) ∷
    (90, foreground named.BrightBlack) ∷
    (91, foreground named.BrightRed) ∷
    (92, foreground named.BrightGreen) ∷
    (93, foreground named.BrightYellow) ∷
    (94, foreground named.BrightBlue) ∷
    (95, foreground named.BrightMagenta) ∷
    (96, foreground named.BrightCyan) ∷
    (97, foreground named.BrightWhite) ∷
    (100, background named.BrightBlack) ∷
    (101, background named.BrightRed) ∷
    (102, background named.BrightGreen) ∷
    (103, background named.BrightYellow) ∷
    (104, background named.BrightBlue) ∷
    (105, background named.BrightMagenta) ∷
    (106, background named.BrightCyan) ∷
    (107, background named.BrightWhite) ∷
    []

-- Kinds of underline: the number after 4 in a group.
abbrev pub underline_table : List (Row Attr)
underline_table =
    (0, attr.CancelUnderline) ∷
    (2, attr.DoubleUnderline) ∷
    (3, attr.Undercurl) ∷
    (4, attr.DottedUnderline) ∷
    (5, attr.DashedUnderline) ∷
    []

-- The attribute that a number makes of a colour.
abbrev pub color_table : List (Row (Color → Attr))
color_table =
    (38, λ color. attr.Foreground color) ∷ (48, λ color. attr.Background color)
    ∷ (58, λ color. attr.UnderlineColor (Some color)) ∷ []

-- The attribute of a group, and how many of the following groups it uses.
pub record Rendition : Type 0 where
  pub attribute : Option Attr
  pub used : ℕ

-- The rendition of a group that uses none of the following groups.
abbrev pub without_further_groups : Option Attr → Rendition
without_further_groups attribute = record { attribute = attribute; used = 0 }

-- A group of one number. After 38, 48 or 58 the groups that follow have a colour.
abbrev pub single_rendition : ℕ → Option (Color → Attr) → List (List ℕ) → Rendition
single_rendition number (Some with_color) groups =
    let reading = color_reading (first_numbers groups) in
    record { attribute = option_map with_color reading.color; used = reading.used }
single_rendition number None groups = without_further_groups (entry_of attribute_table number)

-- A plain underline if the kind has no row, or if several numbers follow the 4.
abbrev pub underline_of : List ℕ → Attr
underline_of (kind ∷ []) = unwrap_or (entry_of underline_table kind) attr.Underline
underline_of _ = attr.Underline

-- A group of several numbers.
abbrev pub joined_rendition : ℕ → List ℕ → Option (Color → Attr) → Rendition
joined_rendition number numbers (Some with_color) =
    without_further_groups
    (option_map with_color (color_reading (without_color_space numbers)).color)
joined_rendition number numbers None =
    without_further_groups (if number == 4 then Some (underline_of numbers) else None)

-- A group of several numbers is read by itself, as ISO 8613-6 writes colours with `:`.
abbrev pub rendition : List ℕ → List (List ℕ) → Rendition
rendition [] groups = without_further_groups None
rendition (number ∷ []) groups = single_rendition number (entry_of color_table number) groups
rendition (number ∷ more ∷ numbers) groups =
    joined_rendition number (more ∷ numbers) (entry_of color_table number)

-- The attributes of groups, the first of which may already be used.
abbrev pub attributes_from : ℕ → List (List ℕ) → List Attr
attributes_from used [] = []
attributes_from (suc used) (group ∷ groups) = attributes_from used groups
attributes_from zero (group ∷ groups) =
    let here = rendition group groups in
    option_to_list here.attribute ++ attributes_from here.used groups

-- One call per attribute.
abbrev pub attribute_calls : List (List ℕ) → List Call
attribute_calls groups = map (λ attribute. TerminalAttribute attribute) (attributes_from 0 groups)

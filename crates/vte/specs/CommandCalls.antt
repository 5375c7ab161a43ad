-- The calls of operating system commands.
use Rattle.std.specs.Fmt.{decimal}
use Rattle.std.specs.List.{filter_map, join_with_byte, range_with_len}
use Rattle.std.specs.Prelude.{Bool, bytes_eq, codes, false, if◌then◌else◌, length, List, map, None, Option, option_and_then, Some, true, ℕ, [], ◌%◌, ◌++◌, ◌+◌, ◌==◌, ◌∷◌}
use Rattle.std.specs.Str.{is_utf8, trim}
use Rattle.vte.specs.Colors.{xparse_color_of}
use Rattle.vte.specs.declared.ansi.calls.joined_text.MalformedPiece.{MalformedPiece}
use Rattle.vte.specs.declared.ansi.calls.joined_text.MalformedPiece.TheVariants.{Empty, LeftOut}
use Rattle.vte.specs.Numbers.{decimal_number}
use Rattle.vte.specs.OptionalCalls.{call_some}
use Rattle.vte.specs.Split.{first_after, split_by}
use Rattle.vte_handler.specs.Call.{Call, SetTitle}
use Rattle.vte_handler.specs.Call as call
use Rattle.vte_handler.specs.Link.{Link}
use Rattle.vte_types.specs.CursorIcon.{icon_of}
use Rattle.vte_types.specs.declared.color.NamedColor.{NamedColor}
use Rattle.vte_types.specs.declared.color.NamedColor.TheVariants.{Background, Cursor, Foreground}
use Rattle.vte_types.specs.declared.screen.CursorShape.{CursorShape}
use Rattle.vte_types.specs.declared.screen.CursorShape.TheVariants as shape
use Rattle.vte_types.specs.NamedColor.{number_of_color}
use Rattle.vte_types.specs.Words.{after_word, entry_of, entry_of_word, Row}

-- ---- texts of pieces

-- What becomes of a piece that isn't UTF-8: a title leaves it out, and in a link it is empty.
abbrev pub text_of_malformed : MalformedPiece → Option (List ℕ)
text_of_malformed LeftOut = None
text_of_malformed Empty = Some []

-- The text of a piece, if it isn't left out.
abbrev pub text_in : MalformedPiece → List ℕ → Option (List ℕ)
text_in malformed piece = if is_utf8 piece then Some piece else text_of_malformed malformed

-- The texts of the pieces, with `;` between them.
abbrev pub joined_texts : MalformedPiece → List (List ℕ) → List ℕ
joined_texts malformed pieces = join_with_byte 0x3b (filter_map (text_in malformed) pieces)

-- ---- titles

-- 0, 2: the title. Without a piece there is none.
abbrev pub title_calls : List (List ℕ) → List Call
title_calls [] = []
title_calls (text ∷ texts) = SetTitle (Some (trim (joined_texts LeftOut (text ∷ texts)))) ∷ []

-- ---- colours

-- `?` queries a colour; a colour sets it.
abbrev pub color_calls : List ℕ → ℕ → List ℕ → List ℕ → List Call
color_calls prefix index terminator text =
    if bytes_eq text (codes "?") then call.DynamicColorSequence prefix index terminator ∷ []
    else call_some (λ color. call.SetColor index color) (xparse_color_of text)

-- 4: colours of the palette, each an index and a text.
abbrev pub palette_entry_calls : List ℕ → Option ℕ → List ℕ → List Call
palette_entry_calls terminator None text = []
palette_entry_calls terminator (Some index) text =
    color_calls (codes "4;" ++ decimal index) index terminator text

-- Indices and texts alternate.
abbrev pub palette_entries_calls : List ℕ → List (List ℕ) → List Call
palette_entries_calls terminator [] = []
palette_entries_calls terminator (index ∷ []) = []
palette_entries_calls terminator (index ∷ text ∷ texts) =
    palette_entry_calls terminator (decimal_number index) text
    ++ palette_entries_calls terminator texts

-- An odd count of texts makes no call, since the last index has no colour.
abbrev pub palette_calls : List ℕ → List (List ℕ) → List Call
palette_calls terminator texts =
    if length texts % 2 == 0 then palette_entries_calls terminator texts else []

-- 10, 11, 12: the dynamic colours. Further texts are for the next ones.
abbrev pub dynamic_colors : List (Row NamedColor)
dynamic_colors = (10, Foreground) ∷ (11, Background) ∷ (12, Cursor) ∷ []

-- A code after 12 has no colour, and makes no call.
abbrev pub dynamic_color_calls : ℕ → List ℕ → List ℕ → Option NamedColor → List Call
dynamic_color_calls code terminator text None = []
dynamic_color_calls code terminator text (Some color) =
    color_calls (decimal code) (number_of_color color) terminator text

-- One text for each code from `code` on: xterm lets one command set several dynamic colours.
abbrev pub dynamic_calls : ℕ → List ℕ → List (List ℕ) → List Call
dynamic_calls code terminator [] = []
dynamic_calls code terminator (text ∷ texts) =
    dynamic_color_calls code terminator text (entry_of dynamic_colors code)
    ++ dynamic_calls (code + 1) terminator texts

-- 104: colours of the palette are reset, all of them without an index.
unfoldable pub all_reset : List Call
all_reset = map (λ index. call.ResetColor index) (range_with_len 0 256)

-- An empty first text counts as none. Texts that are no index are skipped.
abbrev pub reset_calls : List (List ℕ) → List Call
reset_calls [] = all_reset
reset_calls ([] ∷ texts) = all_reset
reset_calls ((byte ∷ text) ∷ texts) =
    map (λ index. call.ResetColor index) (filter_map decimal_number ((byte ∷ text) ∷ texts))

-- ---- links

-- 8: a link. Its identity is the text after `id=` in the first part that starts with it.
abbrev pub id_of : List ℕ → Option (List ℕ)
id_of parameters =
    option_and_then (text_in LeftOut) (first_after (codes "id=") (split_by 0x3a parameters))

-- An empty URI ends the link.
abbrev pub link_to : List ℕ → List ℕ → Option Link
link_to parameters [] = None
link_to parameters (byte ∷ uri) = Some (record { id = id_of parameters; uri = byte ∷ uri })

-- A URI may contain `;`, so the pieces after the parameters are joined. Without a URI no call is
-- made.
abbrev pub link_calls : List (List ℕ) → List Call
link_calls [] = []
link_calls (parameters ∷ []) = []
link_calls (parameters ∷ text ∷ texts) =
    call.SetHyperlink (link_to parameters (joined_texts Empty (text ∷ texts))) ∷ []

-- ---- pointer and cursor

-- 22: the pointer's icon, by its keyword, which must be the only text.
abbrev pub mouse_cursor_icon_calls : List (List ℕ) → List Call
mouse_cursor_icon_calls (name ∷ []) =
    call_some (λ icon. call.SetMouseCursorIcon icon) (icon_of name)
mouse_cursor_icon_calls _ = []

-- 50: the cursor's shape, by the first byte after `CursorShape=`.
abbrev pub shapes : List (Row CursorShape)
shapes = (0x30, shape.Block) ∷ (0x31, shape.Beam) ∷ (0x32, shape.Underline) ∷ []

-- `None` if no byte follows `CursorShape=`, or the first names no shape.
abbrev pub shape_after : Option (List ℕ) → Option CursorShape
shape_after None = None
shape_after (Some []) = None
shape_after (Some (byte ∷ bytes)) = entry_of shapes byte

-- Only the first text counts.
abbrev pub cursor_shape_calls : List (List ℕ) → List Call
cursor_shape_calls [] = []
cursor_shape_calls (text ∷ texts) =
    call_some (λ shape. call.SetCursorShape shape)
    (shape_after (after_word (codes "CursorShape=") text))

-- ---- the clipboard

-- 52: the clipboard. The first byte selects it, `c` if there is none.
abbrev pub clipboard_of : List ℕ → ℕ
clipboard_of [] = 0x63
clipboard_of (byte ∷ bytes) = byte

-- `?` asks for what the clipboard holds. Other data are stored, and not decoded. Later texts are
-- ignored.
abbrev pub clipboard_calls : List ℕ → List (List ℕ) → List Call
clipboard_calls terminator [] = []
clipboard_calls terminator (name ∷ []) = []
clipboard_calls terminator (name ∷ stored ∷ more) =
    (if bytes_eq stored (codes "?") then call.ClipboardLoad (clipboard_of name) terminator
    else call.ClipboardStore (clipboard_of name) stored) ∷ []

-- ---- all commands

-- The terminator that a reply to the command should have.
abbrev pub terminator_of : Bool → List ℕ
terminator_of true = 0x07 ∷ []
terminator_of false = 0x1b ∷ 0x5c ∷ []

-- xterm's commands: the first piece selects what the others ask for.
abbrev pub command_table : List (List ℕ × (List ℕ → List (List ℕ) → List Call))
command_table =
    (codes "0", λ terminator texts. title_calls texts) ∷
    (codes "2", λ terminator texts. title_calls texts) ∷
    (codes "4", λ terminator texts. palette_calls terminator texts) ∷
    (codes "8", λ terminator texts. link_calls texts) ∷
    (codes "10", λ terminator texts. dynamic_calls 10 terminator texts) ∷
    (codes "11", λ terminator texts. dynamic_calls 11 terminator texts) ∷
    (codes "12", λ terminator texts. dynamic_calls 12 terminator texts) ∷
    (codes "22", λ terminator texts. mouse_cursor_icon_calls texts) ∷
    (codes "50", λ terminator texts. cursor_shape_calls texts) ∷
    (codes "52", λ terminator texts. clipboard_calls terminator texts) ∷
    (codes "104", λ terminator texts. reset_calls texts) ∷
    (codes "110", λ terminator texts. call.ResetColor (number_of_color Foreground) ∷ []) ∷
    (codes "111", λ terminator texts. call.ResetColor (number_of_color Background) ∷ []) ∷
    (codes "112", λ terminator texts. call.ResetColor (number_of_color Cursor) ∷ []) ∷
    []

-- A command without a row makes no call.
abbrev pub calls_by : List ℕ → List (List ℕ)
    → Option (List ℕ → List (List ℕ) → List Call) → List Call
calls_by terminator texts None = []
calls_by terminator texts (Some row) = row terminator texts

-- Each event has a piece at least.
abbrev pub system_command_calls : List (List ℕ) → Bool → List Call
system_command_calls [] bell = []
system_command_calls (first ∷ texts) bell =
    calls_by (terminator_of bell) texts (entry_of_word command_table first)

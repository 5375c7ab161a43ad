-- The calls of executed bytes and of escape sequences.
use Rattle.std.specs.Prelude.{if◌then◌else◌, List, None, Option, Some, unwrap_or, ℕ, [], ◌==◌, ◌∷◌}
use Rattle.vte_handler.specs.Call.{Call}
use Rattle.vte_handler.specs.Call as call
use Rattle.vte_types.specs.declared.charset.CharsetIndex.{CharsetIndex}
use Rattle.vte_types.specs.declared.charset.CharsetIndex.TheVariants.{G0, G1, G2, G3}
use Rattle.vte_types.specs.declared.charset.StandardCharset.{StandardCharset}
use Rattle.vte_types.specs.declared.charset.StandardCharset.TheVariants.{Ascii, SpecialCharacterAndLineDrawing}
use Rattle.vte_types.specs.Words.{entry_of, Row}

-- The C0 controls that a terminal acts on.
abbrev pub execute_table : List (Row (List Call))
execute_table =
    (0x07, call.Bell ∷ []) ∷  -- BEL
    (0x08, call.Backspace ∷ []) ∷  -- BS
    (0x09, call.PutTab 1 ∷ []) ∷  -- HT
    (0x0a, call.Linefeed ∷ []) ∷  -- LF
    (0x0b, call.Linefeed ∷ []) ∷  -- VT
    (0x0c, call.Linefeed ∷ []) ∷  -- FF
    (0x0d, call.CarriageReturn ∷ []) ∷  -- CR
    (0x0e, call.SetActiveCharset G1 ∷ []) ∷  -- SO
    (0x0f, call.SetActiveCharset G0 ∷ []) ∷  -- SI
    (0x1a, call.Substitute ∷ []) ∷  -- SUB
    []

-- A control without a row makes no call.
abbrev pub execute_calls : ℕ → List Call
execute_calls byte = unwrap_or (entry_of execute_table byte) []

-- Without intermediates.
abbrev pub escape_table : List (Row (List Call))
escape_table =
    (0x37, call.SaveCursorPosition ∷ []) ∷  -- 7: DECSC
    (0x38, call.RestoreCursorPosition ∷ []) ∷  -- 8: DECRC
    (0x3d, call.SetKeypadApplicationMode ∷ []) ∷  -- =: DECKPAM
    (0x3e, call.UnsetKeypadApplicationMode ∷ []) ∷  -- >: DECKPNM
    (0x44, call.Linefeed ∷ []) ∷  -- D: IND
    (0x45, call.Linefeed ∷ call.CarriageReturn ∷ []) ∷  -- E: NEL
    (0x48, call.SetHorizontalTabstop ∷ []) ∷  -- H: HTS
    (0x4d, call.ReverseIndex ∷ []) ∷  -- M: RI
    (0x5a, call.IdentifyTerminal None ∷ []) ∷  -- Z: DECID
    (0x63, call.ResetState ∷ []) ∷  -- c: RIS
    []

-- The character set that an intermediate designates (ECMA-35).
abbrev pub charset_table : List (Row CharsetIndex)
charset_table = (0x28, G0) ∷ (0x29, G1) ∷ (0x2a, G2) ∷ (0x2b, G3) ∷ []

-- The sets by their final byte: 0 is DEC Special Graphics, and B is ASCII.
abbrev pub standard_charsets : List (Row StandardCharset)
standard_charsets = (0x30, SpecialCharacterAndLineDrawing) ∷ (0x42, Ascii) ∷ []

-- An unknown set, or one that is designated as none of G0 to G3, makes no call.
abbrev pub charset_calls : Option CharsetIndex → Option StandardCharset → List Call
charset_calls (Some index) (Some charset) = call.ConfigureCharset index charset ∷ []
charset_calls _ _ = []

-- `ESC # 8` is DECALN. Several intermediates make no call.
abbrev pub escape_calls : List ℕ → ℕ → List Call
escape_calls [] byte = unwrap_or (entry_of escape_table byte) []
escape_calls (intermediate ∷ []) byte =
    if intermediate == 0x23 then (if byte == 0x38 then call.Decaln ∷ [] else [])
    else charset_calls (entry_of charset_table intermediate) (entry_of standard_charsets byte)
escape_calls _ byte = []

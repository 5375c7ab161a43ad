-- Modes and their numbers (ECMA-48; private modes of DEC, xterm and others).
use Rattle.std.specs.Prelude.{List, map, None, Option, Some, ℕ, [], ◌∷◌}
use Rattle.vte_types.specs.declared.mode.Mode.{Mode}
use Rattle.vte_types.specs.declared.mode.Mode.TheVariants as mode
use Rattle.vte_types.specs.declared.mode.NamedMode.{NamedMode}
use Rattle.vte_types.specs.declared.mode.NamedMode.TheVariants.{Insert, LineFeedNewLine}
use Rattle.vte_types.specs.declared.mode.NamedPrivateMode.{NamedPrivateMode}
use Rattle.vte_types.specs.declared.mode.NamedPrivateMode.TheVariants.{AlternateScroll, BlinkingCursor, BracketedPaste, ColumnMode, CursorKeys, LineWrap, Origin, ReportAllMouseMotion, ReportCellMouseMotion, ReportFocusInOut, ReportMouseClicks, SgrMouse, ShowCursor, SwapScreenAndSetRestoreCursor, SyncUpdate, UrgencyHints, Utf8Mouse}
use Rattle.vte_types.specs.declared.mode.PrivateMode.{PrivateMode}
use Rattle.vte_types.specs.declared.mode.PrivateMode.TheVariants as private
use Rattle.vte_types.specs.Words.{entry_of, Row}

-- The number of each named mode.
abbrev pub number_of_named : NamedMode → ℕ
number_of_named Insert = 4
number_of_named LineFeedNewLine = 20

-- The number of each named private mode.
abbrev pub number_of_private_named : NamedPrivateMode → ℕ
number_of_private_named CursorKeys = 1
number_of_private_named ColumnMode = 3
number_of_private_named Origin = 6
number_of_private_named LineWrap = 7
number_of_private_named BlinkingCursor = 12
number_of_private_named ShowCursor = 25
number_of_private_named ReportMouseClicks = 1000
number_of_private_named ReportCellMouseMotion = 1002
number_of_private_named ReportAllMouseMotion = 1003
number_of_private_named ReportFocusInOut = 1004
number_of_private_named Utf8Mouse = 1005
number_of_private_named SgrMouse = 1006
number_of_private_named AlternateScroll = 1007
number_of_private_named UrgencyHints = 1042
number_of_private_named SwapScreenAndSetRestoreCursor = 1049
number_of_private_named BracketedPaste = 2004
number_of_private_named SyncUpdate = 2026

-- The named modes by number.
abbrev pub named_modes : List (Row NamedMode)
named_modes = map (λ named. (number_of_named named, named)) (Insert ∷ LineFeedNewLine ∷ [])

-- The named private modes by number.
abbrev pub named_private_modes : List (Row NamedPrivateMode)
named_private_modes = map (λ named. (number_of_private_named named, named))
    (CursorKeys ∷ ColumnMode ∷ Origin ∷ LineWrap ∷ BlinkingCursor ∷ ShowCursor ∷ ReportMouseClicks
    ∷ ReportCellMouseMotion ∷
    ReportAllMouseMotion ∷ ReportFocusInOut ∷ Utf8Mouse ∷ SgrMouse ∷ AlternateScroll ∷ UrgencyHints
    ∷ SwapScreenAndSetRestoreCursor ∷
    BracketedPaste ∷ SyncUpdate ∷ [])

-- The named mode with this number, or an unknown one.
abbrev pub named_or : ℕ → Option NamedMode → Mode
named_or number (Some named) = mode.Named named
named_or number None = mode.Unknown number

-- The result of `Mode::new`.
abbrev pub mode_of : ℕ → Mode
mode_of number = named_or number (entry_of named_modes number)

-- The named private mode with this number, or an unknown one.
abbrev pub private_named_or : ℕ → Option NamedPrivateMode → PrivateMode
private_named_or number (Some named) = private.Named named
private_named_or number None = private.Unknown number

-- The result of `PrivateMode::new`.
abbrev pub private_mode_of : ℕ → PrivateMode
private_mode_of number = private_named_or number (entry_of named_private_modes number)

-- The result of `raw`.
abbrev pub number_of_mode : Mode → ℕ
number_of_mode (mode.Named named) = number_of_named named
number_of_mode (mode.Unknown number) = number

-- The result of `raw`, of a private mode.
abbrev pub number_of_private_mode : PrivateMode → ℕ
number_of_private_mode (private.Named named) = number_of_private_named named
number_of_private_mode (private.Unknown number) = number

-- The result of `From`.
abbrev pub named_mode : NamedMode → Mode
named_mode named = mode.Named named

-- The result of `From`, of a private mode.
abbrev pub named_private_mode : NamedPrivateMode → PrivateMode
named_private_mode named = private.Named named

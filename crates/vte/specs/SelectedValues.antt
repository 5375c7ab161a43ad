-- The values that the numbers of control sequences select.
use Rattle.std.specs.Prelude.{false, if◌then◌else◌, List, None, Option, Some, true, ℕ, [], ◌%◌, ◌==◌, ◌∷◌}
use Rattle.vte_types.specs.declared.keyboard.KeyboardModes.{KeyboardModes}
use Rattle.vte_types.specs.declared.keyboard.KeyboardModesApplyBehavior.{KeyboardModesApplyBehavior}
use Rattle.vte_types.specs.declared.keyboard.KeyboardModesApplyBehavior.TheVariants.{Difference, Replace, Union}
use Rattle.vte_types.specs.declared.keyboard.ModifyOtherKeys.{ModifyOtherKeys}
use Rattle.vte_types.specs.declared.keyboard.ModifyOtherKeys.TheVariants as keys
use Rattle.vte_types.specs.declared.screen.ClearMode.{ClearMode}
use Rattle.vte_types.specs.declared.screen.ClearMode.TheVariants as screen
use Rattle.vte_types.specs.declared.screen.CursorShape.{CursorShape}
use Rattle.vte_types.specs.declared.screen.CursorShape.TheVariants.{Beam, Block, Underline}
use Rattle.vte_types.specs.declared.screen.CursorStyle.{CursorStyle}
use Rattle.vte_types.specs.declared.screen.LineClearMode.{LineClearMode}
use Rattle.vte_types.specs.declared.screen.LineClearMode.TheVariants as line
use Rattle.vte_types.specs.declared.screen.ScpCharPath.{ScpCharPath}
use Rattle.vte_types.specs.declared.screen.ScpCharPath.TheVariants as path
use Rattle.vte_types.specs.declared.screen.ScpUpdateMode.{ScpUpdateMode}
use Rattle.vte_types.specs.declared.screen.ScpUpdateMode.TheVariants as update
use Rattle.vte_types.specs.declared.screen.TabulationClearMode.{TabulationClearMode}
use Rattle.vte_types.specs.declared.screen.TabulationClearMode.TheVariants as tab
use Rattle.vte_types.specs.Keyboard.{modes_of_bits}
use Rattle.vte_types.specs.Words.{Row}

-- TBC
abbrev pub clear_tabs_table : List (Row TabulationClearMode)
clear_tabs_table = (0, tab.Current) ∷ (3, tab.All) ∷ []

-- ED; 3 is xterm's.
abbrev pub clear_screen_table : List (Row ClearMode)
clear_screen_table = (0, screen.Below) ∷ (1, screen.Above) ∷ (2, screen.All) ∷
    (3, screen.Saved) ∷ []

-- EL
abbrev pub clear_line_table : List (Row LineClearMode)
clear_line_table = (0, line.Right) ∷ (1, line.Left) ∷ (2, line.All) ∷ []

-- XTMODKEYS
abbrev pub modify_other_keys_table : List (Row ModifyOtherKeys)
modify_other_keys_table =
    (0, keys.Reset) ∷ (1, keys.EnableExceptWellDefined) ∷ (2, keys.EnableAll) ∷ []

-- SCP
abbrev pub char_path_table : List (Row ScpCharPath)
char_path_table = (0, path.Default) ∷ (1, path.LTR) ∷ (2, path.RTL) ∷ []

-- SCP's second parameter: which component is updated from the other.
abbrev pub scp_update_table : List (Row ScpUpdateMode)
scp_update_table =
    (0, update.ImplementationDependant) ∷ (1, update.DataToPresentation)
    ∷ (2, update.PresentationToData) ∷ []

-- DECSCUSR; `None` is the terminal's default style.
abbrev pub steady_style : CursorShape → Option CursorStyle
steady_style shape = Some (record { shape = shape; blinking = false })

-- Odd values of DECSCUSR blink, even ones from 2 on are steady.
abbrev pub blinking_style : CursorShape → Option CursorStyle
blinking_style shape = Some (record { shape = shape; blinking = true })

-- DECSCUSR: 1 to 4 are DEC's, 5 and 6 are xterm's.
abbrev pub cursor_style_table : List (Row (Option CursorStyle))
cursor_style_table =
    (0, None) ∷
    (1, blinking_style Block) ∷
    (2, steady_style Block) ∷
    (3, blinking_style Underline) ∷
    (4, steady_style Underline) ∷
    (5, blinking_style Beam) ∷
    (6, steady_style Beam) ∷
    []

-- DECSTBM: without a bottom margin the region extends to the last line.
abbrev pub bottom_of : ℕ → Option ℕ
bottom_of number = if number == 0 then None else Some number

-- kitty: the low five bits are the modes, and a second number says how they are applied.
abbrev pub keyboard_modes : ℕ → KeyboardModes
keyboard_modes number = modes_of_bits (number % 32)

-- 1 and unknown numbers replace the modes.
abbrev pub behavior_of : ℕ → KeyboardModesApplyBehavior
behavior_of number = if number == 3 then Difference else if number == 2 then Union else Replace

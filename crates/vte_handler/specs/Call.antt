-- The calls that a handler receives, one kind for each of its methods.
use Rattle.std.specs.Prelude.{List, Option, ℕ, ℤ}
use Rattle.vte_handler.specs.Link.{Link}
use Rattle.vte_types.specs.declared.charset.CharsetIndex.{CharsetIndex}
use Rattle.vte_types.specs.declared.charset.StandardCharset.{StandardCharset}
use Rattle.vte_types.specs.declared.color.Attr.{Attr}
use Rattle.vte_types.specs.declared.color.Rgb.{Rgb}
use Rattle.vte_types.specs.declared.cursor_icon.CursorIcon.{CursorIcon}
use Rattle.vte_types.specs.declared.keyboard.KeyboardModes.{KeyboardModes}
use Rattle.vte_types.specs.declared.keyboard.KeyboardModesApplyBehavior.{KeyboardModesApplyBehavior}
use Rattle.vte_types.specs.declared.keyboard.ModifyOtherKeys.{ModifyOtherKeys}
use Rattle.vte_types.specs.declared.mode.Mode.{Mode}
use Rattle.vte_types.specs.declared.mode.PrivateMode.{PrivateMode}
use Rattle.vte_types.specs.declared.screen.ClearMode.{ClearMode}
use Rattle.vte_types.specs.declared.screen.CursorShape.{CursorShape}
use Rattle.vte_types.specs.declared.screen.CursorStyle.{CursorStyle}
use Rattle.vte_types.specs.declared.screen.LineClearMode.{LineClearMode}
use Rattle.vte_types.specs.declared.screen.ScpCharPath.{ScpCharPath}
use Rattle.vte_types.specs.declared.screen.ScpUpdateMode.{ScpUpdateMode}
use Rattle.vte_types.specs.declared.screen.TabulationClearMode.{TabulationClearMode}

-- A kind has the arguments of its method.
pub data Call : Type 0 where
  -- ---- Characters and format effectors
  Input : ℕ → Call
  Bell : Call
  Backspace : Call
  PutTab : ℕ → Call
  Linefeed : Call
  CarriageReturn : Call
  Newline : Call
  Substitute : Call
  -- ---- Cursor position
  Goto : ℤ → ℕ → Call
  GotoLine : ℤ → Call
  GotoCol : ℕ → Call
  MoveUp : ℕ → Call
  MoveDown : ℕ → Call
  MoveForward : ℕ → Call
  MoveBackward : ℕ → Call
  MoveDownAndCr : ℕ → Call
  MoveUpAndCr : ℕ → Call
  SaveCursorPosition : Call
  RestoreCursorPosition : Call
  -- ---- Scrolling
  ReverseIndex : Call
  ScrollUp : ℕ → Call
  ScrollDown : ℕ → Call
  SetScrollingRegion : ℕ → Option ℕ → Call
  -- ---- Tab stops
  SetHorizontalTabstop : Call
  ClearTabs : TabulationClearMode → Call
  SetTabs : ℕ → Call
  MoveForwardTabs : ℕ → Call
  MoveBackwardTabs : ℕ → Call
  -- ---- Editing
  InsertBlank : ℕ → Call
  InsertBlankLines : ℕ → Call
  DeleteChars : ℕ → Call
  DeleteLines : ℕ → Call
  EraseChars : ℕ → Call
  ClearLine : LineClearMode → Call
  ClearScreen : ClearMode → Call
  Decaln : Call
  -- ---- Appearance
  TerminalAttribute : Attr → Call
  SetColor : ℕ → Rgb → Call
  ResetColor : ℕ → Call
  DynamicColorSequence : List ℕ → ℕ → List ℕ → Call
  SetHyperlink : Option Link → Call
  SetCursorStyle : Option CursorStyle → Call
  SetCursorShape : CursorShape → Call
  SetMouseCursorIcon : CursorIcon → Call
  -- ---- Character sets and the direction of text
  SetActiveCharset : CharsetIndex → Call
  ConfigureCharset : CharsetIndex → StandardCharset → Call
  SetScp : ScpCharPath → ScpUpdateMode → Call
  -- ---- Modes
  SetMode : Mode → Call
  UnsetMode : Mode → Call
  ReportMode : Mode → Call
  SetPrivateMode : PrivateMode → Call
  UnsetPrivateMode : PrivateMode → Call
  ReportPrivateMode : PrivateMode → Call
  ResetState : Call
  -- ---- Keyboard
  SetKeypadApplicationMode : Call
  UnsetKeypadApplicationMode : Call
  PushKeyboardMode : KeyboardModes → Call
  PopKeyboardModes : ℕ → Call
  SetKeyboardMode : KeyboardModes → KeyboardModesApplyBehavior → Call
  ReportKeyboardMode : Call
  SetModifyOtherKeys : ModifyOtherKeys → Call
  ReportModifyOtherKeys : Call
  -- ---- Titles, clipboards and reports
  SetTitle : Option (List ℕ) → Call
  PushTitle : Call
  PopTitle : Call
  ClipboardStore : ℕ → List ℕ → Call
  ClipboardLoad : ℕ → List ℕ → Call
  DeviceStatus : ℕ → Call
  IdentifyTerminal : Option ℕ → Call
  TextAreaSizePixels : Call
  TextAreaSizeChars : Call

-- The calls that `ByCall` passes as values, as the contracts name them.
use Rattle.std.specs.Prelude.{option_map}
use Rattle.vte_handler.specs.Call.{Call}
use Rattle.vte_handler.specs.Call as call
use Rattle.vte_handler.specs.declared.by_call.HandlerCall.{HandlerCall}
use Rattle.vte_handler.specs.declared.by_call.HandlerCall.TheVariants as passed
use Rattle.vte_handler.specs.Link.{link_of}

-- A text that is lent counts as what it holds.
abbrev pub call_of : HandlerCall → Call
-- ---- Characters and format effectors
call_of (passed.Input c) = call.Input c
call_of passed.Bell = call.Bell
call_of passed.Backspace = call.Backspace
call_of (passed.PutTab count) = call.PutTab count
call_of passed.Linefeed = call.Linefeed
call_of passed.CarriageReturn = call.CarriageReturn
call_of passed.Newline = call.Newline
call_of passed.Substitute = call.Substitute
-- ---- Cursor position
call_of (passed.Goto line column) = call.Goto line column
call_of (passed.GotoLine line) = call.GotoLine line
call_of (passed.GotoCol column) = call.GotoCol column
call_of (passed.MoveUp count) = call.MoveUp count
call_of (passed.MoveDown count) = call.MoveDown count
call_of (passed.MoveForward count) = call.MoveForward count
call_of (passed.MoveBackward count) = call.MoveBackward count
call_of (passed.MoveDownAndCr count) = call.MoveDownAndCr count
call_of (passed.MoveUpAndCr count) = call.MoveUpAndCr count
call_of passed.SaveCursorPosition = call.SaveCursorPosition
call_of passed.RestoreCursorPosition = call.RestoreCursorPosition
-- ---- Scrolling
call_of passed.ReverseIndex = call.ReverseIndex
call_of (passed.ScrollUp count) = call.ScrollUp count
call_of (passed.ScrollDown count) = call.ScrollDown count
call_of (passed.SetScrollingRegion top bottom) = call.SetScrollingRegion top bottom
-- ---- Tab stops
call_of passed.SetHorizontalTabstop = call.SetHorizontalTabstop
call_of (passed.ClearTabs which) = call.ClearTabs which
call_of (passed.SetTabs interval) = call.SetTabs interval
call_of (passed.MoveForwardTabs count) = call.MoveForwardTabs count
call_of (passed.MoveBackwardTabs count) = call.MoveBackwardTabs count
-- ---- Editing
call_of (passed.InsertBlank count) = call.InsertBlank count
call_of (passed.InsertBlankLines count) = call.InsertBlankLines count
call_of (passed.DeleteChars count) = call.DeleteChars count
call_of (passed.DeleteLines count) = call.DeleteLines count
call_of (passed.EraseChars count) = call.EraseChars count
call_of (passed.ClearLine part) = call.ClearLine part
call_of (passed.ClearScreen part) = call.ClearScreen part
call_of passed.Decaln = call.Decaln
-- ---- Appearance
call_of (passed.TerminalAttribute attribute) = call.TerminalAttribute attribute
call_of (passed.SetColor index color) = call.SetColor index color
call_of (passed.ResetColor index) = call.ResetColor index
call_of (passed.DynamicColorSequence prefix index terminator) =
    call.DynamicColorSequence prefix.now index terminator.now
call_of (passed.SetHyperlink link) = call.SetHyperlink (option_map link_of link)
call_of (passed.SetCursorStyle style) = call.SetCursorStyle style
call_of (passed.SetCursorShape shape) = call.SetCursorShape shape
call_of (passed.SetMouseCursorIcon icon) = call.SetMouseCursorIcon icon
-- ---- Character sets and the direction of text
call_of (passed.SetActiveCharset index) = call.SetActiveCharset index
call_of (passed.ConfigureCharset index charset) = call.ConfigureCharset index charset
call_of (passed.SetScp path update) = call.SetScp path update
-- ---- Modes
call_of (passed.SetMode mode) = call.SetMode mode
call_of (passed.UnsetMode mode) = call.UnsetMode mode
call_of (passed.ReportMode mode) = call.ReportMode mode
call_of (passed.SetPrivateMode mode) = call.SetPrivateMode mode
call_of (passed.UnsetPrivateMode mode) = call.UnsetPrivateMode mode
call_of (passed.ReportPrivateMode mode) = call.ReportPrivateMode mode
call_of passed.ResetState = call.ResetState
-- ---- Keyboard
call_of passed.SetKeypadApplicationMode = call.SetKeypadApplicationMode
call_of passed.UnsetKeypadApplicationMode = call.UnsetKeypadApplicationMode
call_of (passed.PushKeyboardMode mode) = call.PushKeyboardMode mode
call_of (passed.PopKeyboardModes count) = call.PopKeyboardModes count
call_of (passed.SetKeyboardMode mode behavior) = call.SetKeyboardMode mode behavior
call_of passed.ReportKeyboardMode = call.ReportKeyboardMode
call_of (passed.SetModifyOtherKeys keys) = call.SetModifyOtherKeys keys
call_of passed.ReportModifyOtherKeys = call.ReportModifyOtherKeys
-- ---- Titles, clipboards and reports
call_of (passed.SetTitle title) = call.SetTitle (option_map (λ text. text.now) title)
call_of passed.PushTitle = call.PushTitle
call_of passed.PopTitle = call.PopTitle
call_of (passed.ClipboardStore clipboard bytes) = call.ClipboardStore clipboard bytes.now
call_of (passed.ClipboardLoad clipboard terminator) = call.ClipboardLoad clipboard terminator.now
call_of (passed.DeviceStatus kind) = call.DeviceStatus kind
call_of (passed.IdentifyTerminal intermediate) = call.IdentifyTerminal intermediate
call_of passed.TextAreaSizePixels = call.TextAreaSizePixels
call_of passed.TextAreaSizeChars = call.TextAreaSizeChars

-- Examples worked out by hand: streams and all their calls. The prover compares them with the
-- definitions, not with code.
use Rattle.std.specs.List.{range_with_len}
use Rattle.std.specs.Prelude.{codes, false, List, map, None, Option, pos, Some, true, ℕ, [], ◌++◌, ◌∷◌, ◌≡◌}
use Rattle.vte.specs.Calls.{calls}
use Rattle.vte.specs.Colors.{xparse_color_of}
use Rattle.vte_core.specs.Stream.{default_limit, events}
use Rattle.vte_handler.specs.Call.{Call}
use Rattle.vte_handler.specs.Call as call
use Rattle.vte_types.specs.declared.charset.CharsetIndex.TheVariants.{G0, G1, G2, G3}
use Rattle.vte_types.specs.declared.charset.StandardCharset.TheVariants.{Ascii, SpecialCharacterAndLineDrawing}
use Rattle.vte_types.specs.declared.color.Attr.{Attr}
use Rattle.vte_types.specs.declared.color.Attr.TheVariants as attr
use Rattle.vte_types.specs.declared.color.Color.{Color}
use Rattle.vte_types.specs.declared.color.Color.TheVariants.{Indexed, Spec}
use Rattle.vte_types.specs.declared.color.Color.TheVariants as color
use Rattle.vte_types.specs.declared.color.NamedColor.TheVariants as named
use Rattle.vte_types.specs.declared.color.Rgb.{Rgb}
use Rattle.vte_types.specs.declared.cursor_icon.CursorIcon.TheVariants as icon
use Rattle.vte_types.specs.declared.keyboard.KeyboardModesApplyBehavior.TheVariants.{Difference, Replace, Union}
use Rattle.vte_types.specs.declared.keyboard.ModifyOtherKeys.TheVariants as keys
use Rattle.vte_types.specs.declared.mode.Mode.TheVariants as mode
use Rattle.vte_types.specs.declared.mode.NamedMode.TheVariants.{Insert, LineFeedNewLine}
use Rattle.vte_types.specs.declared.mode.NamedPrivateMode.TheVariants.{CursorKeys, ShowCursor, SyncUpdate}
use Rattle.vte_types.specs.declared.mode.PrivateMode.TheVariants as private
use Rattle.vte_types.specs.declared.screen.ClearMode.TheVariants as screen
use Rattle.vte_types.specs.declared.screen.CursorShape.TheVariants.{Beam, Block, Underline}
use Rattle.vte_types.specs.declared.screen.LineClearMode.TheVariants as line
use Rattle.vte_types.specs.declared.screen.ScpCharPath.TheVariants as path
use Rattle.vte_types.specs.declared.screen.ScpUpdateMode.TheVariants as update
use Rattle.vte_types.specs.declared.screen.TabulationClearMode.TheVariants as tab
use Rattle.vte_types.specs.Keyboard.{modes_of_bits}

-- A stream and its calls.
pub record CallExample : Type 0 where
  pub stream : List ℕ
  pub made : List Call

abbrev pub makes : List ℕ → List Call → CallExample
makes stream made = record { stream = stream; made = made }

-- A stream that makes one call.
abbrev pub makes_one : List ℕ → Call → CallExample
makes_one stream made = record { stream = stream; made = made ∷ [] }

-- Each example makes exactly its calls.
abbrev pub HaveCalls : List CallExample → Type 0
HaveCalls examples =
    map (λ example. calls (events default_limit example.stream)) examples
    ≡ map (λ example. example.made) examples

abbrev pub executed_examples : List CallExample
executed_examples =
    makes [] []
    ∷ makes (0x61 ∷ 0xc3 ∷ 0xa9 ∷ []) (call.Input 0x61 ∷ call.Input 0xe9 ∷ [])
    ∷ makes_one (codes "\u{7}") call.Bell
    ∷ makes_one (codes "\u{8}") call.Backspace
    ∷ makes_one (codes "\t") (call.PutTab 1)
    ∷ makes (codes "\n\u{b}\u{c}") (call.Linefeed ∷ call.Linefeed ∷ call.Linefeed ∷ [])
    ∷ makes_one (codes "\r") call.CarriageReturn
    ∷ makes_one (codes "\u{e}") (call.SetActiveCharset G1)
    ∷ makes_one (codes "\u{f}") (call.SetActiveCharset G0)
    ∷ makes_one (codes "\u{1a}") call.Substitute
    -- Controls without a row.
    ∷ makes (codes "\0\u{6}\u{10}\u{18}\u{19}\u{1f}") []
    ∷ makes (0xc2 ∷ 0x85 ∷ []) []
    ∷ []

abbrev pub escape_examples : List CallExample
escape_examples =
    makes_one (codes "\u{1b}D") call.Linefeed
    ∷ makes (codes "\u{1b}E") (call.Linefeed ∷ call.CarriageReturn ∷ [])
    ∷ makes_one (codes "\u{1b}H") call.SetHorizontalTabstop
    ∷ makes_one (codes "\u{1b}M") call.ReverseIndex
    ∷ makes_one (codes "\u{1b}Z") (call.IdentifyTerminal None)
    ∷ makes_one (codes "\u{1b}c") call.ResetState
    ∷ makes_one (codes "\u{1b}7") call.SaveCursorPosition
    ∷ makes_one (codes "\u{1b}8") call.RestoreCursorPosition
    ∷ makes_one (codes "\u{1b}#8") call.Decaln
    ∷ makes_one (codes "\u{1b}=") call.SetKeypadApplicationMode
    ∷ makes_one (codes "\u{1b}>") call.UnsetKeypadApplicationMode
    ∷ makes (codes "\u{1b}\\") []
    ∷ makes (codes "\u{1b}(B\u{1b}(0")
    (call.ConfigureCharset G0 Ascii ∷ call.ConfigureCharset G0 SpecialCharacterAndLineDrawing ∷ [])
    ∷ makes (codes "\u{1b})B\u{1b})0")
    (call.ConfigureCharset G1 Ascii ∷ call.ConfigureCharset G1 SpecialCharacterAndLineDrawing ∷ [])
    ∷ makes (codes "\u{1b}*B\u{1b}*0")
    (call.ConfigureCharset G2 Ascii ∷ call.ConfigureCharset G2 SpecialCharacterAndLineDrawing ∷ [])
    ∷ makes (codes "\u{1b}+B\u{1b}+0")
    (call.ConfigureCharset G3 Ascii ∷ call.ConfigureCharset G3 SpecialCharacterAndLineDrawing ∷ [])
    -- Another set, two intermediates, an intermediate before a final byte whose row has none.
    ∷ makes (codes "\u{1b}(A") []
    ∷ makes (codes "\u{1b}()B") []
    ∷ makes (codes "\u{1b}#7\u{1b}(D") []
    ∷ []

-- A count: 1 if it is omitted or 0, and at most 65,535.
abbrev pub counted_examples : List CallExample
counted_examples =
    makes (codes "\u{1b}[@\u{1b}[0@\u{1b}[7@\u{1b}[65536@")
    (call.InsertBlank 1 ∷ call.InsertBlank 1 ∷ call.InsertBlank 7 ∷ call.InsertBlank 65535 ∷ [])
    ∷ makes (codes "\u{1b}[A\u{1b}[0A\u{1b}[7;8A\u{1b}[65536A")
    (call.MoveUp 1 ∷ call.MoveUp 1 ∷ call.MoveUp 7 ∷ call.MoveUp 65535 ∷ [])
    ∷ makes (codes "\u{1b}[B\u{1b}[0e\u{1b}[7e\u{1b}[65536e")
    (call.MoveDown 1 ∷ call.MoveDown 1 ∷ call.MoveDown 7 ∷ call.MoveDown 65535 ∷ [])
    ∷ makes (codes "\u{1b}[C\u{1b}[0a\u{1b}[7a\u{1b}[65536a")
    (call.MoveForward 1 ∷ call.MoveForward 1 ∷ call.MoveForward 7 ∷ call.MoveForward 65535 ∷ [])
    ∷ makes (codes "\u{1b}[D\u{1b}[0D\u{1b}[7D\u{1b}[65536D")
    (call.MoveBackward 1 ∷ call.MoveBackward 1 ∷ call.MoveBackward 7 ∷ call.MoveBackward 65535 ∷ [])
    ∷ makes (codes "\u{1b}[E\u{1b}[0E\u{1b}[7E\u{1b}[65536E")
    (call.MoveDownAndCr 1 ∷ call.MoveDownAndCr 1 ∷ call.MoveDownAndCr 7
    ∷ call.MoveDownAndCr 65535 ∷ [])
    ∷ makes (codes "\u{1b}[F\u{1b}[0F\u{1b}[7F\u{1b}[65536F")
    (call.MoveUpAndCr 1 ∷ call.MoveUpAndCr 1 ∷ call.MoveUpAndCr 7 ∷ call.MoveUpAndCr 65535 ∷ [])
    ∷ makes (codes "\u{1b}[I\u{1b}[0I\u{1b}[7I\u{1b}[65536I")
    (call.MoveForwardTabs 1 ∷ call.MoveForwardTabs 1 ∷ call.MoveForwardTabs 7
    ∷ call.MoveForwardTabs 65535 ∷ [])
    ∷ makes (codes "\u{1b}[Z\u{1b}[0Z\u{1b}[7Z\u{1b}[65536Z")
    (call.MoveBackwardTabs 1 ∷ call.MoveBackwardTabs 1 ∷ call.MoveBackwardTabs 7
    ∷ call.MoveBackwardTabs 65535 ∷ [])
    ∷ makes (codes "\u{1b}[L\u{1b}[0L\u{1b}[7L\u{1b}[65536L")
    (call.InsertBlankLines 1 ∷ call.InsertBlankLines 1 ∷ call.InsertBlankLines 7
    ∷ call.InsertBlankLines 65535 ∷ [])
    ∷ makes (codes "\u{1b}[M\u{1b}[0M\u{1b}[7M\u{1b}[65536M")
    (call.DeleteLines 1 ∷ call.DeleteLines 1 ∷ call.DeleteLines 7 ∷ call.DeleteLines 65535 ∷ [])
    ∷ makes (codes "\u{1b}[P\u{1b}[0P\u{1b}[7P\u{1b}[65536P")
    (call.DeleteChars 1 ∷ call.DeleteChars 1 ∷ call.DeleteChars 7 ∷ call.DeleteChars 65535 ∷ [])
    ∷ makes (codes "\u{1b}[X\u{1b}[0X\u{1b}[7X\u{1b}[65536X")
    (call.EraseChars 1 ∷ call.EraseChars 1 ∷ call.EraseChars 7 ∷ call.EraseChars 65535 ∷ [])
    ∷ makes (codes "\u{1b}[S\u{1b}[0S\u{1b}[7S\u{1b}[65536S")
    (call.ScrollUp 1 ∷ call.ScrollUp 1 ∷ call.ScrollUp 7 ∷ call.ScrollUp 65535 ∷ [])
    ∷ makes (codes "\u{1b}[T\u{1b}[0T\u{1b}[7T\u{1b}[65536T")
    (call.ScrollDown 1 ∷ call.ScrollDown 1 ∷ call.ScrollDown 7 ∷ call.ScrollDown 65535 ∷ [])
    ∷ makes (codes "\u{1b}[<u\u{1b}[<0u\u{1b}[<7u\u{1b}[<65536u")
    (call.PopKeyboardModes 1 ∷ call.PopKeyboardModes 1 ∷ call.PopKeyboardModes 7
    ∷ call.PopKeyboardModes 65535 ∷ [])
    -- Nothing printed yet, then a character three times.
    ∷ makes (codes "\u{1b}[3ba\u{1b}[b\u{1b}[0b\u{1b}[2b")
    (call.Input 0x61 ∷ call.Input 0x61 ∷ call.Input 0x61 ∷ call.Input 0x61 ∷ call.Input 0x61 ∷ [])
    -- An intermediate without a row, and more than two intermediates.
    ∷ makes (codes "\u{1b}[?A\u{1b}[!A\u{1b}[1 A") []
    ∷ makes (codes "\u{1b}[?$#p") []
    ∷ []

-- Positions count from 0.
abbrev pub position_examples : List CallExample
position_examples =
    makes (codes "\u{1b}[d\u{1b}[0d\u{1b}[7d\u{1b}[65536d")
    (call.GotoLine (pos 0) ∷ call.GotoLine (pos 0) ∷ call.GotoLine (pos 6)
    ∷ call.GotoLine (pos 65534) ∷ [])
    ∷ makes (codes "\u{1b}[G\u{1b}[0`\u{1b}[7`\u{1b}[65536G")
    (call.GotoCol 0 ∷ call.GotoCol 0 ∷ call.GotoCol 6 ∷ call.GotoCol 65534 ∷ [])
    ∷ makes (codes "\u{1b}[H\u{1b}[0;0f\u{1b}[;7H\u{1b}[7f\u{1b}[65536;2H")
    (call.Goto (pos 0) 0 ∷ call.Goto (pos 0) 0 ∷ call.Goto (pos 0) 6 ∷ call.Goto (pos 6) 0
    ∷ call.Goto (pos 65534) 1 ∷ [])
    ∷ makes (codes "\u{1b}[r\u{1b}[3;2r\u{1b}[0;0r\u{1b}[4r\u{1b}[65536;65536r")
    (call.SetScrollingRegion 1 None ∷ call.SetScrollingRegion 3 (Some 2)
    ∷ call.SetScrollingRegion 1 None ∷ call.SetScrollingRegion 4 None
    ∷ call.SetScrollingRegion 65535 (Some 65535) ∷ [])
    ∷ makes (codes "\u{1b}[s\u{1b}[u") (call.SaveCursorPosition ∷ call.RestoreCursorPosition ∷ [])
    ∷ []

-- Selections: an omitted number is 0, and a value without a row makes no call.
abbrev pub selected_examples : List CallExample
selected_examples =
    makes (codes "\u{1b}[J\u{1b}[0J\u{1b}[1J\u{1b}[2J\u{1b}[3J\u{1b}[4J")
    (call.ClearScreen screen.Below ∷ call.ClearScreen screen.Below ∷ call.ClearScreen screen.Above
    ∷ call.ClearScreen screen.All ∷ call.ClearScreen screen.Saved ∷ [])
    ∷ makes (codes "\u{1b}[K\u{1b}[0K\u{1b}[1K\u{1b}[2K\u{1b}[3K")
    (call.ClearLine line.Right ∷ call.ClearLine line.Right ∷ call.ClearLine line.Left
    ∷ call.ClearLine line.All ∷ [])
    ∷ makes (codes "\u{1b}[g\u{1b}[0g\u{1b}[3g\u{1b}[1g")
    (call.ClearTabs tab.Current ∷ call.ClearTabs tab.Current ∷ call.ClearTabs tab.All ∷ [])
    ∷ makes (codes "\u{1b}[?5W\u{1b}[?W\u{1b}[?0W\u{1b}[?6W") (call.SetTabs 8 ∷ [])
    ∷ makes (codes "\u{1b}[c\u{1b}[0c\u{1b}[>c\u{1b}[?0c\u{1b}[1c\u{1b}[>1c")
    (call.IdentifyTerminal None ∷ call.IdentifyTerminal None ∷ call.IdentifyTerminal (Some 0x3e)
    ∷ call.IdentifyTerminal (Some 0x3f) ∷ [])
    ∷ makes (codes "\u{1b}[n\u{1b}[0n\u{1b}[6n")
    (call.DeviceStatus 0 ∷ call.DeviceStatus 0 ∷ call.DeviceStatus 6 ∷ [])
    ∷ makes (codes "\u{1b}[14t\u{1b}[18t\u{1b}[22t\u{1b}[23t\u{1b}[t\u{1b}[0t\u{1b}[24t")
    (call.TextAreaSizePixels ∷ call.TextAreaSizeChars ∷ call.PushTitle ∷ call.PopTitle ∷ [])
    ∷ makes (codes "\u{1b}[ q\u{1b}[0 q\u{1b}[1 q\u{1b}[2 q\u{1b}[3 q\u{1b}[6 q\u{1b}[7 q")
    (call.SetCursorStyle None ∷ call.SetCursorStyle None
    ∷ call.SetCursorStyle (Some (record { shape = Block; blinking = true }))
    ∷ call.SetCursorStyle (Some (record { shape = Block; blinking = false }))
    ∷ call.SetCursorStyle (Some (record { shape = Underline; blinking = true }))
    ∷ call.SetCursorStyle (Some (record { shape = Beam; blinking = false })) ∷ [])
    ∷ makes (codes "\u{1b}[ k\u{1b}[1;2 k\u{1b}[2;1 k\u{1b}[3 k\u{1b}[0;3 k")
    (call.SetScp path.Default update.ImplementationDependant
    ∷ call.SetScp path.LTR update.PresentationToData
    ∷ call.SetScp path.RTL update.DataToPresentation ∷ [])
    ∷ makes
    (codes "\u{1b}[>4m\u{1b}[>4;0m\u{1b}[>4;1m\u{1b}[>4;2m\u{1b}[>4;3m\u{1b}[>m\u{1b}[>1;1m")
    (call.SetModifyOtherKeys keys.Reset ∷ call.SetModifyOtherKeys keys.Reset
    ∷ call.SetModifyOtherKeys keys.EnableExceptWellDefined
    ∷ call.SetModifyOtherKeys keys.EnableAll ∷ [])
    ∷ makes (codes "\u{1b}[?4m\u{1b}[?4:1m\u{1b}[?m") (call.ReportModifyOtherKeys ∷ [])
    ∷ makes (codes "\u{1b}[=u\u{1b}[=3;2u\u{1b}[=33;3u\u{1b}[=1;4u")
    (call.SetKeyboardMode (modes_of_bits 0) Replace ∷ call.SetKeyboardMode (modes_of_bits 3) Union
    ∷ call.SetKeyboardMode (modes_of_bits 1) Difference
    ∷ call.SetKeyboardMode (modes_of_bits 1) Replace ∷ [])
    ∷ makes (codes "\u{1b}[>u\u{1b}[>0u\u{1b}[>37u")
    (call.PushKeyboardMode (modes_of_bits 0) ∷ call.PushKeyboardMode (modes_of_bits 0)
    ∷ call.PushKeyboardMode (modes_of_bits 5) ∷ [])
    ∷ makes (codes "\u{1b}[?u") (call.ReportKeyboardMode ∷ [])
    ∷ []

abbrev pub mode_examples : List CallExample
mode_examples =
    makes (codes "\u{1b}[4;20;5h")
    (call.SetMode (mode.Named Insert) ∷ call.SetMode (mode.Named LineFeedNewLine)
    ∷ call.SetMode (mode.Unknown 5) ∷ [])
    ∷ makes (codes "\u{1b}[4l\u{1b}[l\u{1b}[65536l")
    (call.UnsetMode (mode.Named Insert) ∷ call.UnsetMode (mode.Unknown 0)
    ∷ call.UnsetMode (mode.Unknown 65535) ∷ [])
    ∷ makes (codes "\u{1b}[?1;9:1;2026h")
    (call.SetPrivateMode (private.Named CursorKeys) ∷ call.SetPrivateMode (private.Unknown 9)
    ∷ call.SetPrivateMode (private.Named SyncUpdate) ∷ [])
    ∷ makes (codes "\u{1b}[?25l\u{1b}[?0l")
    (call.UnsetPrivateMode (private.Named ShowCursor)
    ∷ call.UnsetPrivateMode (private.Unknown 0) ∷ [])
    ∷ makes (codes "\u{1b}[4$p\u{1b}[$p")
    (call.ReportMode (mode.Named Insert) ∷ call.ReportMode (mode.Unknown 0) ∷ [])
    ∷ makes (codes "\u{1b}[?25$p\u{1b}[?$p")
    (call.ReportPrivateMode (private.Named ShowCursor)
    ∷ call.ReportPrivateMode (private.Unknown 0) ∷ [])
    ∷ []

-- The attributes that an SGR sequence sets.
abbrev pub renders : List ℕ → List Attr → CallExample
renders stream attributes =
    record {
      stream = stream;
      made = map (λ attribute. call.TerminalAttribute attribute) attributes;
    }

abbrev pub spec : ℕ → ℕ → ℕ → Color
spec r g b = Spec (record { r = r; g = g; b = b })

abbrev pub rendition_examples : List CallExample
rendition_examples =
    renders (codes "\u{1b}[m\u{1b}[0;1;2;3m")
    (attr.Reset ∷ attr.Reset ∷ attr.Bold ∷ attr.Dim ∷ attr.Italic ∷ [])
    ∷ renders (codes "\u{1b}[4;4:0;4:1;4:2;4:3;4:4;4:5;4:6;4:2:1m")
    (attr.Underline ∷ attr.CancelUnderline ∷ attr.Underline ∷ attr.DoubleUnderline
    ∷ attr.Undercurl ∷ attr.DottedUnderline ∷ attr.DashedUnderline ∷ attr.Underline
    ∷ attr.Underline ∷ [])
    ∷ renders (codes "\u{1b}[5;6;7;8;9m")
    (attr.BlinkSlow ∷ attr.BlinkFast ∷ attr.Reverse ∷ attr.Hidden ∷ attr.Strike ∷ [])
    ∷ renders (codes "\u{1b}[21;22;23;24;25;27;28;29m")
    (attr.CancelBold ∷ attr.CancelBoldDim ∷ attr.CancelItalic ∷ attr.CancelUnderline
    ∷ attr.CancelBlink ∷ attr.CancelReverse ∷ attr.CancelHidden ∷ attr.CancelStrike ∷ [])
    ∷ renders (codes "\u{1b}[30;37;39;40;47;49;59m")
    (attr.Foreground (color.Named named.Black) ∷ attr.Foreground (color.Named named.White)
    ∷ attr.Foreground (color.Named named.Foreground)
    ∷ attr.Background (color.Named named.Black) ∷ attr.Background (color.Named named.White)
    ∷ attr.Background (color.Named named.Background) ∷ attr.UnderlineColor None ∷ [])
    ∷ renders (codes "\u{1b}[90;97;100;107m")
    (attr.Foreground (color.Named named.BrightBlack)
    ∷ attr.Foreground (color.Named named.BrightWhite)
    ∷ attr.Background (color.Named named.BrightBlack)
    ∷ attr.Background (color.Named named.BrightWhite) ∷ [])
    -- Numbers without a row, and groups of several numbers.
    ∷ renders (codes "\u{1b}[10;20;26;50;98;108;1:5m") []
    -- Colours in the groups that follow.
    ∷ renders (codes "\u{1b}[38;2;128;66;255;1m")
    (attr.Foreground (spec 128 66 255) ∷ attr.Bold ∷ [])
    ∷ renders (codes "\u{1b}[48;5;255;58;5;0m")
    (attr.Background (Indexed 255) ∷ attr.UnderlineColor (Some (Indexed 0)) ∷ [])
    -- An invalid part, kind and index are skipped, and the next group is read.
    ∷ renders (codes "\u{1b}[38;2;256;1;2m") (attr.Bold ∷ attr.Dim ∷ [])
    ∷ renders (codes "\u{1b}[38;2;1;256;1m") (attr.Bold ∷ [])
    ∷ renders (codes "\u{1b}[38;2;1;2;256;1m") (attr.Bold ∷ [])
    ∷ renders (codes "\u{1b}[38;7;1m") (attr.Bold ∷ [])
    ∷ renders (codes "\u{1b}[38;5;256;1m") (attr.Bold ∷ [])
    -- Too few numbers.
    ∷ renders (codes "\u{1b}[38m\u{1b}[38;2;1;2m\u{1b}[38;5m") []
    -- Colours in one group, with a colour space and without.
    ∷ renders (codes "\u{1b}[38:2:1:2:3;48:2:0:1:2:3;58:5:9m")
    (attr.Foreground (spec 1 2 3) ∷ attr.Background (spec 1 2 3)
    ∷ attr.UnderlineColor (Some (Indexed 9)) ∷ [])
    ∷ renders (codes "\u{1b}[38:5:7:8:9:1m") (attr.Foreground (Indexed 8) ∷ [])
    -- An invalid colour in one group skips no other group.
    ∷ renders (codes "\u{1b}[38:2:256:1:2;1m") (attr.Bold ∷ [])
    ∷ renders (codes "\u{1b}[38:7:1;1m") (attr.Bold ∷ [])
    ∷ renders (codes "\u{1b}[38:5:256;1m") (attr.Bold ∷ [])
    ∷ renders (codes "\u{1b}[38:2:1:256:2;1m") (attr.Bold ∷ [])
    ∷ renders (codes "\u{1b}[38:2:0:1:2:256;1m") (attr.Bold ∷ [])
    ∷ renders (codes "\u{1b}[38:2:1:2;1m\u{1b}[38:5;1m") (attr.Bold ∷ attr.Bold ∷ [])
    ∷ []

abbrev pub bell : List ℕ
bell = 0x07 ∷ []

abbrev pub string_terminator : List ℕ
string_terminator = 0x1b ∷ 0x5c ∷ []

-- Titles: white space at both ends is trimmed, and pieces that aren't UTF-8 are dropped.
abbrev pub title_examples : List CallExample
title_examples =
    makes_one (codes "\u{1b}]0;a\u{7}") (call.SetTitle (Some (codes "a")))
    ∷ makes_one (codes "\u{1b}]2;a;;b\u{1b}\\") (call.SetTitle (Some (codes "a;;b")))
    ∷ makes_one (codes "\u{1b}]2; a b  \u{7}") (call.SetTitle (Some (codes "a b")))
    -- U+0085, U+00A0 and U+3000 are white space, U+200B isn't.
    ∷ makes_one
    (codes "\u{1b}]2;" ++ 0xc2 ∷ 0x85 ∷ 0xc2 ∷ 0xa0 ∷ codes "a" ++ 0xe3 ∷ 0x80 ∷ 0x80 ∷ bell)
    (call.SetTitle (Some (codes "a")))
    ∷ makes_one (codes "\u{1b}]2;" ++ 0xe2 ∷ 0x80 ∷ 0x8b ∷ bell)
    (call.SetTitle (Some (0xe2 ∷ 0x80 ∷ 0x8b ∷ [])))
    ∷ makes_one (codes "\u{1b}]2;a;" ++ 0xff ∷ codes ";b\u{7}") (call.SetTitle (Some (codes "a;b")))
    ∷ makes_one (codes "\u{1b}]2;" ++ 0xc3 ∷ bell) (call.SetTitle (Some []))
    ∷ makes_one (codes "\u{1b}]2;\u{7}") (call.SetTitle (Some []))
    ∷ makes (codes "\u{1b}]2\u{7}\u{1b}]1;a\u{7}\u{1b}]\u{7}") []
    ∷ []

abbrev pub links : Option (List ℕ) → List ℕ → Call
links id uri = call.SetHyperlink (Some (record { id = id; uri = uri }))

abbrev pub link_examples : List CallExample
link_examples =
    makes_one (codes "\u{1b}]8;;http://a;b\u{1b}\\") (links None (codes "http://a;b"))
    ∷ makes_one (codes "\u{1b}]8;id=x;u\u{7}") (links (Some (codes "x")) (codes "u"))
    ∷ makes_one (codes "\u{1b}]8;a=b:id=x:id=y;u\u{7}") (links (Some (codes "x")) (codes "u"))
    ∷ makes_one (codes "\u{1b}]8;id=;u\u{7}") (links (Some []) (codes "u"))
    ∷ makes_one (codes "\u{1b}]8;aid=x;u\u{7}") (links None (codes "u"))
    -- An id that isn't UTF-8 is dropped, and a piece of the URI that isn't is left empty.
    ∷ makes_one (codes "\u{1b}]8;id=" ++ 0xff ∷ codes ":id=y;u\u{7}") (links None (codes "u"))
    ∷ makes_one (codes "\u{1b}]8;;a;" ++ 0xff ∷ codes ";b\u{7}") (links None (codes "a;;b"))
    ∷ makes (codes "\u{1b}]8;;\u{7}\u{1b}]8;id=x;\u{7}\u{1b}]8;;" ++ 0xff ∷ bell)
    (call.SetHyperlink None ∷ call.SetHyperlink None ∷ call.SetHyperlink None ∷ [])
    ∷ makes (codes "\u{1b}]8;u\u{7}\u{1b}]8\u{7}") []
    ∷ []

abbrev pub palette_examples : List CallExample
palette_examples =
    makes_one (codes "\u{1b}]4;0;?\u{7}") (call.DynamicColorSequence (codes "4;0") 0 bell)
    ∷ makes_one (codes "\u{1b}]4;007;?\u{1b}\\")
    (call.DynamicColorSequence (codes "4;7") 7 string_terminator)
    ∷ makes (codes "\u{1b}]4;255;?;10;#fff\u{7}")
    (call.DynamicColorSequence (codes "4;255") 255 bell
    ∷ call.SetColor 10 (record { r = 240; g = 240; b = 240 }) ∷ [])
    ∷ makes (codes "\u{1b}]4;1;#000;255;rgb:f/f/f\u{1b}\\")
    (call.SetColor 1 (record { r = 0; g = 0; b = 0 })
    ∷ call.SetColor 255 (record { r = 255; g = 255; b = 255 }) ∷ [])
    -- An invalid number, an invalid colour, an incomplete pair.
    ∷ makes
    (codes
    "\u{1b}]4;256;?\u{7}\u{1b}]4;x;?\u{7}\u{1b}]4;;?\u{7}\u{1b}]4;0;red\u{7}\u{1b}]4;0\u{7}\u{1b}]4;1;#000;2\u{7}\u{1b}]4\u{7}") []
    -- Without an index all 256 colours are reset.
    ∷ makes (codes "\u{1b}]104\u{7}") (map (λ index. call.ResetColor index) (range_with_len 0 256))
    ∷ makes (codes "\u{1b}]104;\u{7}") (map (λ index. call.ResetColor index) (range_with_len 0 256))
    ∷ makes (codes "\u{1b}]104;;5\u{7}")
    (map (λ index. call.ResetColor index) (range_with_len 0 256))
    ∷ makes_one (codes "\u{1b}]104;1;\u{1b}\\") (call.ResetColor 1)
    ∷ makes (codes "\u{1b}]104;1;256;x;2\u{7}") (call.ResetColor 1 ∷ call.ResetColor 2 ∷ [])
    ∷ []

abbrev pub command_examples : List CallExample
command_examples =
    makes (codes "\u{1b}]10;?;#000\u{7}")
    (call.DynamicColorSequence (codes "10") 256 bell
    ∷ call.SetColor 257 (record { r = 0; g = 0; b = 0 }) ∷ [])
    ∷ makes_one (codes "\u{1b}]12;?;?\u{7}") (call.DynamicColorSequence (codes "12") 258 bell)
    ∷ makes_one (codes "\u{1b}]11;x;?\u{7}") (call.DynamicColorSequence (codes "12") 258 bell)
    ∷ makes_one (codes "\u{1b}]22;pointer\u{7}") (call.SetMouseCursorIcon icon.Pointer)
    ∷ makes (codes "\u{1b}]22;hand\u{7}\u{1b}]22;text;text\u{7}\u{1b}]22\u{7}") []
    ∷ makes
    (codes "\u{1b}]50;CursorShape=0\u{7}\u{1b}]50;CursorShape=1x\u{7}\u{1b}]50;CursorShape=2\u{7}")
    (call.SetCursorShape Block ∷ call.SetCursorShape Beam ∷ call.SetCursorShape Underline ∷ [])
    ∷ makes (codes "\u{1b}]50;CursorShape=3\u{7}\u{1b}]50;CursorShape=\u{7}\u{1b}]50\u{7}") []
    ∷ makes_one (codes "\u{1b}]52;s;YQ==\u{7}") (call.ClipboardStore 0x73 (codes "YQ=="))
    ∷ makes_one (codes "\u{1b}]52;;?\u{1b}\\") (call.ClipboardLoad 0x63 string_terminator)
    ∷ makes (codes "\u{1b}]52;c\u{7}") []
    ∷ makes (codes "\u{1b}]110\u{7}\u{1b}]111\u{7}\u{1b}]112;x\u{7}")
    (call.ResetColor 256 ∷ call.ResetColor 257 ∷ call.ResetColor 258 ∷ [])
    -- CAN ends a command, and so does ESC.
    ∷ makes_one (codes "\u{1b}]10;?\u{18}")
    (call.DynamicColorSequence (codes "10") 256 string_terminator)
    ∷ makes (codes "\u{1b}]11;?\u{1b}c")
    (call.DynamicColorSequence (codes "11") 257 string_terminator ∷ call.ResetState ∷ [])
    ∷ []

-- A text and its colour.
pub record ColorExample : Type 0 where
  pub text : List ℕ
  pub color : Option Rgb

abbrev pub reads : List ℕ → ℕ → ℕ → ℕ → ColorExample
reads text r g b = record { text = text; color = Some (record { r = r; g = g; b = b }) }

abbrev pub reads_none : List ℕ → ColorExample
reads_none text = record { text = text; color = None }

abbrev pub HaveColors : List ColorExample → Type 0
HaveColors examples =
    map (λ example. xparse_color_of example.text) examples ≡ map (λ example. example.color) examples

abbrev pub color_examples : List ColorExample
color_examples =
    reads (codes "rgb:f/ed1/cb23") 0xff 0xec 0xca
    ∷ reads (codes "rgb:0/00/FFFF") 0 0 0xff
    ∷ reads (codes "#1af") 0x10 0xa0 0xf0
    ∷ reads (codes "#12ABef") 0x12 0xab 0xef
    ∷ reads (codes "#110aa0ff0") 0x11 0xaa 0xff
    ∷ reads (codes "#112233445566") 0x11 0x33 0x55
    ∷ reads_none (codes "rgb:0//")
    ∷ reads_none (codes "rgb:0/0")
    ∷ reads_none (codes "rgb:0/0/0/0")
    ∷ reads_none (codes "rgb:00000/0/0")
    ∷ reads_none (codes "rgb:+1/0/0")
    ∷ reads_none (codes "#")
    ∷ reads_none (codes "#f")
    ∷ reads_none (codes "#1234")
    ∷ reads_none (codes "#+1+2+3")
    ∷ reads_none (codes "#12345g")
    ∷ reads_none (codes "#111222333444555")
    ∷ reads_none (codes "red")
    ∷ []

-- The calls of a control sequence, by its final byte and intermediates (ECMA-48, the VT500, xterm).
use Rattle.std.specs.Prelude.{drop, if◌then◌else◌, List, map, None, Option, pos, replicate, Some, unwrap_or, ℕ, [], ◌&&◌, ◌-◌, ◌==◌, ◌∷◌}
use Rattle.vte.specs.declared.ansi.calls.control_sequence.ModeChange.{ModeChange}
use Rattle.vte.specs.declared.ansi.calls.control_sequence.ModeChange.TheVariants as change
use Rattle.vte.specs.Numbers.{asks_for_modify_other_keys, first_nonzero_or, first_numbers, first_of}
use Rattle.vte.specs.OptionalCalls.{call_both, call_some}
use Rattle.vte.specs.Rendition.{attribute_calls}
use Rattle.vte.specs.SelectedValues.{behavior_of, bottom_of, char_path_table, clear_line_table, clear_screen_table, clear_tabs_table, cursor_style_table, keyboard_modes, modify_other_keys_table, scp_update_table}
use Rattle.vte_handler.specs.Call.{Call}
use Rattle.vte_handler.specs.Call as call
use Rattle.vte_types.specs.Mode.{mode_of, private_mode_of}
use Rattle.vte_types.specs.Words.{entry_of, Row}

-- ---- changes of modes

-- SM, RM, DECSET and DECRST.

-- The call for one number: DECSET and DECRST name private modes.
abbrev pub change_call : ModeChange → ℕ → Call
change_call change.Set number = call.SetMode (mode_of number)
change_call change.Reset number = call.UnsetMode (mode_of number)
change_call change.SetPrivate number = call.SetPrivateMode (private_mode_of number)
change_call change.ResetPrivate number = call.UnsetPrivateMode (private_mode_of number)

-- One call per number, in order.
abbrev pub change_calls : ModeChange → List ℕ → List Call
change_calls which numbers = map (λ number. change_call which number) numbers

-- ---- calls of single sequences

-- The last printed character, this many times, or nothing if no character was printed (REP).
abbrev pub repeat_calls : Option ℕ → ℕ → List Call
repeat_calls None count = []
repeat_calls (Some character) count = replicate count (call.Input character)

-- DECST8C: 5 sets a tab stop at every eighth column.
abbrev pub set_tabs_table : List (Row (List Call))
set_tabs_table = (5, call.SetTabs 8 ∷ []) ∷ []

-- XTWINOPS: the sizes of the text area, and xterm's stack of titles.
abbrev pub window_operation_table : List (Row (List Call))
window_operation_table =
    (14, call.TextAreaSizePixels ∷ []) ∷
    (18, call.TextAreaSizeChars ∷ []) ∷
    (22, call.PushTitle ∷ []) ∷
    (23, call.PopTitle ∷ []) ∷
    []

-- How modified keys are reported (XTMODKEYS): only resource 4, `modifyOtherKeys`, is known.
abbrev pub modify_keys_calls : ℕ → ℕ → List Call
modify_keys_calls resource value =
    if resource == 4 then call_some (λ keys. call.SetModifyOtherKeys keys)
    (entry_of modify_other_keys_table value)
    else []

-- The query of `modifyOtherKeys` (XTQMODKEYS).
abbrev pub modify_keys_query_calls : List (List ℕ) → List Call
modify_keys_query_calls groups =
    if asks_for_modify_other_keys groups then call.ReportModifyOtherKeys ∷ [] else []

-- The cursor's style, or nothing if the number is unknown (DECSCUSR).
abbrev pub cursor_style_calls : ℕ → List Call
cursor_style_calls style =
    call_some (λ style. call.SetCursorStyle style) (entry_of cursor_style_table style)

-- The path of characters and how it is updated, or nothing if one of them is unknown (SCP).
abbrev pub scp_calls : ℕ → ℕ → List Call
scp_calls path update =
    call_both (λ path update. call.SetScp path update) (entry_of char_path_table path)
    (entry_of scp_update_table update)

-- ---- calls by intermediates and final byte

module _ (last : Option ℕ) (groups : List (List ℕ)) where
  -- Parameters as ECMA-48 names them, one per group: a number Pn is 1 if it is 0 or omitted, and an
  -- omitted Ps is 0.
  abbrev pub pn : ℕ
  pn = first_nonzero_or 1 (first_numbers groups)

  -- Pn of the second group.
  abbrev pub pn2 : ℕ
  pn2 = first_nonzero_or 1 (first_numbers (drop 1 groups))

  -- Ps of the first group.
  abbrev pub ps : ℕ
  ps = first_nonzero_or 0 (first_numbers groups)

  -- Ps of the second group.
  abbrev pub ps2 : ℕ
  ps2 = first_nonzero_or 0 (first_numbers (drop 1 groups))

  -- Without intermediates.
  unfoldable pub table_without_intermediates : List (Row (List Call))
  table_without_intermediates =
      (0x40, call.InsertBlank pn ∷ []) ∷  -- @: ICH
      (0x41, call.MoveUp pn ∷ []) ∷  -- A: CUU
      (0x42, call.MoveDown pn ∷ []) ∷  -- B: CUD
      (0x43, call.MoveForward pn ∷ []) ∷  -- C: CUF
      (0x44, call.MoveBackward pn ∷ []) ∷  -- D: CUB
      (0x45, call.MoveDownAndCr pn ∷ []) ∷  -- E: CNL
      (0x46, call.MoveUpAndCr pn ∷ []) ∷  -- F: CPL
      (0x47, call.GotoCol (pn - 1) ∷ []) ∷  -- G: CHA
      (0x48, call.Goto (pos (pn - 1)) (pn2 - 1) ∷ []) ∷  -- H: CUP
      (0x49, call.MoveForwardTabs pn ∷ []) ∷  -- I: CHT
      (0x4a, call_some (λ part. call.ClearScreen part) (entry_of clear_screen_table ps)) ∷  -- J: ED
      (0x4b, call_some (λ part. call.ClearLine part) (entry_of clear_line_table ps)) ∷  -- K: EL
      (0x4c, call.InsertBlankLines pn ∷ []) ∷  -- L: IL
      (0x4d, call.DeleteLines pn ∷ []) ∷  -- M: DL
      (0x50, call.DeleteChars pn ∷ []) ∷  -- P: DCH
      (0x53, call.ScrollUp pn ∷ []) ∷  -- S: SU
      (0x54, call.ScrollDown pn ∷ []) ∷  -- T: SD
      (0x58, call.EraseChars pn ∷ []) ∷  -- X: ECH
      (0x5a, call.MoveBackwardTabs pn ∷ []) ∷  -- Z: CBT
      (0x60, call.GotoCol (pn - 1) ∷ []) ∷  -- `: HPA
      (0x61, call.MoveForward pn ∷ []) ∷  -- a: HPR
      (0x62, repeat_calls last pn) ∷  -- b: REP
      (0x64, call.GotoLine (pos (pn - 1)) ∷ []) ∷  -- d: VPA
      (0x65, call.MoveDown pn ∷ []) ∷  -- e: VPR
      (0x66, call.Goto (pos (pn - 1)) (pn2 - 1) ∷ []) ∷  -- f: HVP
      (0x67, call_some (λ which. call.ClearTabs which) (entry_of clear_tabs_table ps)) ∷  -- g: TBC
      (0x68, change_calls change.Set (first_numbers groups)) ∷  -- h: SM
      (0x6c, change_calls change.Reset (first_numbers groups)) ∷  -- l: RM
      (0x6d, attribute_calls groups) ∷  -- m: SGR
      (0x6e, call.DeviceStatus ps ∷ []) ∷  -- n: DSR
      (0x72, call.SetScrollingRegion pn (bottom_of ps2) ∷ []) ∷  -- r: DECSTBM
      (0x73, call.SaveCursorPosition ∷ []) ∷  -- s: SCOSC
      (0x74, unwrap_or (entry_of window_operation_table pn) []) ∷  -- t: XTWINOPS
      (0x75, call.RestoreCursorPosition ∷ []) ∷  -- u: SCORC
      []

  -- With `?`: private sequences of DEC, and those of xterm and kitty.
  abbrev pub question_table : List (Row (List Call))
  question_table =
      (0x57, unwrap_or (entry_of set_tabs_table ps) []) ∷  -- W: DECST8C
      (0x68, change_calls change.SetPrivate (first_numbers groups)) ∷  -- h: DECSET
      (0x6c, change_calls change.ResetPrivate (first_numbers groups)) ∷  -- l: DECRST
      (0x6d, modify_keys_query_calls groups) ∷  -- m: XTQMODKEYS
      (0x75, call.ReportKeyboardMode ∷ []) ∷  -- u: kitty
      []

  -- With `>`: xterm's keys are set, or kitty's keyboard modes pushed.
  abbrev pub greater_table : List (Row (List Call))
  greater_table =
      (0x6d, modify_keys_calls pn ps2) ∷  -- m: XTMODKEYS
      (0x75, call.PushKeyboardMode (keyboard_modes ps) ∷ []) ∷  -- u: kitty
      []

  -- With `=`: kitty's keyboard modes are changed.
  abbrev pub equals_table : List (Row (List Call))
  equals_table =
      (0x75, call.SetKeyboardMode (keyboard_modes ps) (behavior_of pn2) ∷ []) ∷  -- u: kitty
      []

  -- With `<`: kitty's keyboard modes are popped, as many as the number says.
  abbrev pub less_table : List (Row (List Call))
  less_table =
      (0x75, call.PopKeyboardModes pn ∷ []) ∷  -- u: kitty
      []

  -- With a space: the character path of ECMA-48, and DEC's cursor style.
  abbrev pub space_table : List (Row (List Call))
  space_table =
      (0x6b, scp_calls ps ps2) ∷  -- k: SCP
      (0x71, cursor_style_calls ps) ∷  -- q: DECSCUSR
      []

  -- With `$`: DEC's request for an ANSI mode.
  abbrev pub dollar_table : List (Row (List Call))
  dollar_table =
      (0x70, call.ReportMode (mode_of ps) ∷ []) ∷  -- p: DECRQM
      []

  -- With `?$`: DEC's request for a private mode.
  abbrev pub question_dollar_table : List (Row (List Call))
  question_dollar_table =
      (0x70, call.ReportPrivateMode (private_mode_of ps) ∷ []) ∷  -- p: DECRQM
      []

  -- With exactly these intermediates. A private marker counts as one.
  abbrev pub table_of : List ℕ → List (Row (List Call))
  table_of [] = table_without_intermediates
  table_of (byte ∷ []) =
      if byte == 0x3f then question_table
      else if byte == 0x3e then greater_table
      else if byte == 0x3d then equals_table
      else if byte == 0x3c then less_table
      else if byte == 0x20 then space_table
      else if byte == 0x24 then dollar_table
      else []
  table_of (byte ∷ next ∷ []) = if byte == 0x3f && next == 0x24 then question_dollar_table else []
  table_of _ = []

  -- Device attributes (DA) may have any intermediates. A sequence without a row makes no call.
  abbrev pub control_sequence_calls : List ℕ → ℕ → List Call
  control_sequence_calls intermediates final =
      if final == 0x63
      then (if ps == 0 then call.IdentifyTerminal (first_of intermediates) ∷ [] else [])
      else unwrap_or (entry_of (table_of intermediates) final) []

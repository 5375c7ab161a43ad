-- The key: the byte that selects the kind of a sequence.
use Rattle.std.specs.Prelude.{Bool, if◌then◌else◌, ℕ, ◌==◌, ◌||◌}

-- The kinds of sequences, each with the key that begins it after ESC.
pub data SequenceKind : Type 0 where
  -- [
  ControlSequence : SequenceKind
  -- P
  DeviceControl : SequenceKind
  -- ]
  SystemCommand : SequenceKind
  -- X, ^ and _: SOS, PM and APC.
  IgnoredString : SequenceKind
  -- Any other byte, which belongs to an escape sequence.
  EscapeSequence : SequenceKind

-- X, ^ and _.
abbrev pub begins_ignored_string : ℕ → Bool
begins_ignored_string key = key == 0x58 || key == 0x5e || key == 0x5f

-- The kind that a key selects, unless it is CAN or SUB (`body_rest`).
unfoldable pub sequence_kind : ℕ → SequenceKind
sequence_kind b =
    if b == 0x5b then ControlSequence
    else if b == 0x50 then DeviceControl
    else if b == 0x5d then SystemCommand
    else if begins_ignored_string b then IgnoredString
    else EscapeSequence

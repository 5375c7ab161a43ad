-- What a parser reports, and the value of a performer after it.
use Rattle.std.specs.Prelude.{Bool, List, ℕ, [], ◌∷◌}

-- What a performer receives, one kind for each method that reports.
pub data Event : Type 0 where
  -- A character of text.
  Print : ℕ → Event
  -- A control character, C0 or C1.
  Execute : ℕ → Event
  -- The start of a device control string: parameters, intermediates, whether there were too many of
  -- either, final byte.
  Hook : List (List ℕ) → List ℕ → Bool → ℕ → Event
  -- A data byte of the string.
  Put : ℕ → Event
  -- The end of the string.
  Unhook : Event
  -- An operating system command: its pieces, and whether BEL ended it.
  OscDispatch : List (List ℕ) → Bool → Event
  -- A control sequence, with the same fields as `Hook`.
  CsiDispatch : List (List ℕ) → List ℕ → Bool → ℕ → Event
  -- An escape sequence: intermediates, whether there were too many, final byte.
  EscDispatch : List ℕ → Bool → ℕ → Event

-- U+FFFD, which is printed for a malformed sequence.
abbrev pub replacement : ℕ
replacement = 0xfffd

-- The value of a performer after a list of events.
abbrev pub after : {V : Type 0} → (V → Event → V) → V → List Event → V
after step value [] = value
after step value (event ∷ events) = after step (step value event) events

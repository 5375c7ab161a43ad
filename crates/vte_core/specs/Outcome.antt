-- The outcome of a text, a body or a stream: its events, and what is left to close at its end.
use Rattle.std.specs.Prelude.{Bool, false, List, ℕ, [], ⊤, ◌++◌, ◌∷◌, ◌≡◌}
use Rattle.vte_core.specs.Event.{Event, OscDispatch, Print, replacement, Unhook}

-- What an ESC that follows closes, with or without an event.
pub data ToClose : Type 0 where
  NothingToClose : ToClose
  -- These bytes of an open character.
  CharacterToClose : List ℕ → ToClose
  -- An escape sequence; or an ESC alone, after which any kind may follow.
  EscapeToClose : ToClose
  ControlSequenceToClose : ToClose
  -- The head of a device control string, whatever its shape.
  DeviceHeadToClose : ToClose
  -- The data of a hooked device control string.
  DeviceDataToClose : ToClose
  -- An operating system command with these pieces, and whether data bytes of it are in none.
  CommandToClose : List (List ℕ) → Bool → ToClose
  IgnoredStringToClose : ToClose

-- The events with which it is closed.
abbrev pub closing_events : ToClose → List Event
closing_events (CharacterToClose bytes) = Print replacement ∷ []
closing_events DeviceDataToClose = Unhook ∷ []
closing_events (CommandToClose pieces lost) = OscDispatch pieces false ∷ []
closing_events _ = []

-- If a command is open, the flag says whether data bytes of it are in no piece.
abbrev pub SaysLoss : ToClose → Bool → Type 0
SaysLoss (CommandToClose pieces lost) answer = answer ≡ lost
SaysLoss _ answer = ⊤

-- The bytes of an open character.
abbrev pub open_bytes : ToClose → List ℕ
open_bytes (CharacterToClose bytes) = bytes
open_bytes _ = []

-- How a text, a body or a stream ends: it leaves at most one thing open.
pub record Outcome : Type 0 where
  -- The events, whatever follows.
  pub reported : List Event
  -- What an ESC at the end would close.
  pub to_close : ToClose

-- An outcome without events, which leaves this to close.
abbrev pub leaves : ToClose → Outcome
leaves to_close = record { reported = []; to_close = to_close }

-- An outcome with these events before its own.
abbrev pub report : List Event → Outcome → Outcome
report events rest = record { reported = events ++ rest.reported; to_close = rest.to_close }

-- All events if an ESC follows.
abbrev pub events_before_escape : Outcome → List Event
events_before_escape outcome = outcome.reported ++ closing_events outcome.to_close

-- What one byte reports after a place, and where it leads (`Steps`), for all uses of it. `TextSteps` and `PlaceSteps`
-- prove it of each place.
use Rattle.vte_core.proofs.Common.{AreBrief, breaks, BytesLead, class_of, CommandToClose, Event, events, false, FitsLimit, InDeviceData, InText, is_device_data, IsAtMostOneCharacter, IsOutsideRuns, List, None, open_at, open_data_count, Option, Place, Print, refl, replacement, to_close_at, ToClose, ℕ, [], ◌+◌, ◌∷◌, ◌≡◌, ◌≤◌, ◌⊎◌}
use Rattle.vte_core.proofs.lemmas.fields.PlaceOfState.{IsReachable}

-- If a character is open at the next place, at most U+FFFD was reported.
abbrev LeavesOpen : Place → List Event → Type 0
LeavesOpen next reported = (open_at next ≡ []) ⊎ ((reported ≡ []) ⊎ (reported ≡ Print replacement ∷ []))

-- Nothing was reported, or one character event after which no character is open.
abbrev pub IsSilentOrSettles : Place → List Event → Type 0
IsSilentOrSettles next reported = (reported ≡ []) ⊎ ((open_at next ≡ []) × IsAtMostOneCharacter reported)

-- The place is in a text.
abbrev pub IsText : Place → Type 0
IsText (InText opened) = Unit {0}
IsText _ = ⊥

-- A character is open only in a text.
pub text_at : (place : Place) → (open_at place ≡ [] → ⊥) → IsText place
text_at (InText opened) some_open = tt
text_at _ some_open = absurd (some_open refl)

-- The pieces of the open command, if any, fit into a buffer of this size.
abbrev pub OpenPiecesFit : Option ℕ → ToClose → Type 0
OpenPiecesFit size (CommandToClose pieces dropped) = FitsLimit size pieces
OpenPiecesFit size _ = Unit {0}

-- The byte is outside of a text, and of data that are put.
abbrev pub IsOutsideRunsAtPlace : Place → ℕ → Type 0
IsOutsideRunsAtPlace (InText opened) byte = ⊥
IsOutsideRunsAtPlace InDeviceData byte = is_device_data (class_of byte) ≡ false
IsOutsideRunsAtPlace _ byte = Unit {0}

-- None of the events is one of a run.
abbrev pub AreOutsideRuns : List Event → Type 0
AreOutsideRuns [] = Unit {0}
AreOutsideRuns (event ∷ []) = IsOutsideRuns event
AreOutsideRuns (event ∷ events) = IsOutsideRuns event × AreOutsideRuns events

-- What the byte reports after the place, and where it leads.
pub record Steps (limit : Option ℕ) (place : Place) (byte : ℕ) : Type 0 where
  pub reported : List Event
  pub next : Place
  pub is_reachable : IsReachable next
  -- For `after-leads`.
  pub leads : BytesLead limit place (byte ∷ []) reported next
  -- For `laws::bytes_are_brief`.
  pub brief : (size : Option ℕ) → OpenPiecesFit size (to_close_at limit place) → AreBrief size reported
  -- For the size of a command without a limit.
  pub grows : limit ≡ None → open_data_count (to_close_at limit next) ≤ open_data_count (to_close_at limit place) + 1
  -- For early stops: nothing is reported if a character is left open.
  pub leaves : LeavesOpen next reported
  pub silent_or_settles : IsText place → breaks (open_at place) (byte ∷ []) ≡ false → IsSilentOrSettles next reported
  -- For `advance_to_run`.
  pub outside_runs : IsOutsideRunsAtPlace place byte → AreOutsideRuns reported

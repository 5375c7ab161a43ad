-- The limits of events, and what one byte adds to a stream: at most two events, of which only the
-- first may be long.
use Rattle.std.specs.Char.{IsScalar}
use Rattle.std.specs.List.{concat}
use Rattle.std.specs.Prelude.{false, length, List, None, Option, Some, true, ℕ, [], ⊤, ◌<◌, ◌∷◌, ◌≡◌, ◌≤◌}
use Rattle.vte_core.specs.Class.{IsDeviceData}
use Rattle.vte_core.specs.Event.{CsiDispatch, EscDispatch, Event, Execute, Hook, OscDispatch, Print, Put, Unhook}
use Rattle.vte_core.specs.Intermediates.{max_intermediates}
use Rattle.vte_core.specs.Parameters.{AreGroups}
use Rattle.vte_core.specs.SystemCommand.{max_pieces}
use Rattle.vte_core.specs.Text.{is_control_character}

-- The pieces fit into a buffer of this size.
abbrev pub FitsLimit : Option ℕ → List (List ℕ) → Type 0
FitsLimit None pieces = ⊤
FitsLimit (Some limit) pieces = length (concat pieces) ≤ limit

-- A character that is printed: a scalar value of Unicode, and no control.
abbrev pub IsPrintable : ℕ → Type 0
IsPrintable c = IsScalar c × (is_control_character c ≡ false)

-- A byte that is executed: C0 or 80..9F.
abbrev pub IsExecuted : ℕ → Type 0
IsExecuted byte = is_control_character byte ≡ true

-- A control sequence or a device control string: at least one group, and a final byte among 40..7E.
pub record HasBoundedFields (groups : List (List ℕ)) (intermediates : List ℕ) (final : ℕ) : Type 0
  where
    pub groups_are : AreGroups groups
    pub some_groups : 0 < length groups
    pub few_intermediates : length intermediates ≤ max_intermediates
    pub final_at_least : 0x40 ≤ final
    pub final_below : final < 0x7f

-- The limits of an event. The final byte of an escape sequence is among 30..7E.
abbrev pub IsBounded : Option ℕ → Event → Type 0
IsBounded limit (Print c) = IsPrintable c
IsBounded limit (Execute byte) = IsExecuted byte
IsBounded limit (Hook groups intermediates ignore final) =
    HasBoundedFields groups intermediates final
IsBounded limit (Put byte) = IsDeviceData byte
IsBounded limit Unhook = ⊤
IsBounded limit (OscDispatch pieces bell_terminated) =
    (length pieces ≤ max_pieces) × FitsLimit limit pieces × (0 < length pieces)
IsBounded limit (CsiDispatch groups intermediates ignore final) =
    HasBoundedFields groups intermediates final
IsBounded limit (EscDispatch intermediates ignore final) =
    (length intermediates ≤ max_intermediates) × (0x30 ≤ final) × (final < 0x7f)

-- A printed character or an executed byte.
abbrev pub IsCharacterEvent : Event → Type 0
IsCharacterEvent (Print c) = IsPrintable c
IsCharacterEvent (Execute byte) = IsExecuted byte
IsCharacterEvent _ = ⊥

-- At most two events, which are bounded, and the second is a character event.
abbrev pub AreBrief : Option ℕ → List Event → Type 0
AreBrief limit [] = ⊤
AreBrief limit (event ∷ []) = IsBounded limit event
AreBrief limit (event ∷ last ∷ []) = IsBounded limit event × IsCharacterEvent last
AreBrief limit _ = ⊥

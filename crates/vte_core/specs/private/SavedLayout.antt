-- A parser saved as plain data.
use Rattle.std.specs.Prelude.{Bool, List, not, take, ℕ, [], ⊤, ◌==◌, ◌∷◌, ◌≡◌}
use Rattle.vte_core.specs.declared.head.HeadProgress.TheVariants.{Entry, IllShaped, Intermediates, Parameters}
use Rattle.vte_core.specs.declared.parser.machine.Machine.{Machine}
use Rattle.vte_core.specs.declared.parser.saved.Saved.{Saved}
use Rattle.vte_core.specs.declared.parser.State.{State}
use Rattle.vte_core.specs.declared.parser.State.TheVariants.{ControlSequence, DeviceControl, DeviceData, Escape, EscapeIntermediate, IgnoredString, SystemCommand, Text}
use Rattle.vte_core.specs.declared.utf8.OpenCharacter.TheVariants.{Empty, One, Three, Two}
use Rattle.vte_core.specs.private.FlatGroups.{AreRawParts}
use Rattle.vte_core.specs.private.Store.{ArePieceEnds}

-- The number of a state, and the bytes of an open character.
abbrev pub state_bytes : State → List ℕ
state_bytes (Text Empty) = 0 ∷ 0 ∷ 0 ∷ 0 ∷ []
state_bytes (Text (One a)) = 1 ∷ a ∷ 0 ∷ 0 ∷ []
state_bytes (Text (Two a b)) = 2 ∷ a ∷ b ∷ 0 ∷ []
state_bytes (Text (Three a b c)) = 3 ∷ a ∷ b ∷ c ∷ []
state_bytes Escape = 4 ∷ 0 ∷ 0 ∷ 0 ∷ []
state_bytes EscapeIntermediate = 5 ∷ 0 ∷ 0 ∷ 0 ∷ []
state_bytes (ControlSequence Entry) = 6 ∷ 0 ∷ 0 ∷ 0 ∷ []
state_bytes (ControlSequence Parameters) = 7 ∷ 0 ∷ 0 ∷ 0 ∷ []
state_bytes (ControlSequence Intermediates) = 8 ∷ 0 ∷ 0 ∷ 0 ∷ []
state_bytes (ControlSequence IllShaped) = 9 ∷ 0 ∷ 0 ∷ 0 ∷ []
state_bytes (DeviceControl Entry) = 10 ∷ 0 ∷ 0 ∷ 0 ∷ []
state_bytes (DeviceControl Parameters) = 11 ∷ 0 ∷ 0 ∷ 0 ∷ []
state_bytes (DeviceControl Intermediates) = 12 ∷ 0 ∷ 0 ∷ 0 ∷ []
state_bytes (DeviceControl IllShaped) = 13 ∷ 0 ∷ 0 ∷ 0 ∷ []
state_bytes DeviceData = 14 ∷ 0 ∷ 0 ∷ 0 ∷ []
state_bytes SystemCommand = 15 ∷ 0 ∷ 0 ∷ 0 ∷ []
state_bytes IgnoredString = 16 ∷ 0 ∷ 0 ∷ 0 ∷ []

-- Zero is false; any other number is true.
abbrev pub flag_of : ℕ → Bool
flag_of byte = not (byte == 0)

-- The state is one in which numbers count.
abbrev pub IsInHead : State → Type 0
IsInHead (ControlSequence reached) = ⊤
IsInHead (DeviceControl reached) = ⊤
IsInHead _ = ⊥

-- The state is one in which intermediates count.
abbrev pub HasIntermediates : State → Type 0
HasIntermediates Escape = ⊤
HasIntermediates EscapeIntermediate = ⊤
HasIntermediates state = IsInHead state

-- The machine was restored from `saved`.
pub record IsRestored {B : Type 0} (saved : Saved) (machine : Machine B) : Type 0 where
  pub state : (state : State) → saved.state ≡ state_bytes state → machine.state ≡ state
  pub intermediates : HasIntermediates machine.state
      → machine.collected.intermediates.items
      ≡ take saved.intermediate_count saved.intermediates
  pub too_many_intermediates : HasIntermediates machine.state
      → machine.collected.too_many_intermediates ≡ flag_of saved.too_many_intermediates
  pub params : IsInHead machine.state → (groups : List (List ℕ))
      → AreRawParts (take saved.group_count saved.lengths)
      (take saved.number_count saved.numbers) groups
      → machine.collected.params ≡ groups
  pub number : IsInHead machine.state → machine.collected.number ≡ saved.number
  pub joined : IsInHead machine.state → machine.collected.joined ≡ flag_of saved.joined
  pub bytes : machine.state ≡ SystemCommand
      → machine.command.bytes ≡ take saved.byte_count saved.bytes
  pub ends : machine.state ≡ SystemCommand
      → ArePieceEnds (take saved.byte_count saved.bytes) (take saved.end_count saved.ends)
      → machine.command.ends ≡ take saved.end_count saved.ends
  pub lost : machine.state ≡ SystemCommand → machine.command.lost ≡ flag_of saved.lost

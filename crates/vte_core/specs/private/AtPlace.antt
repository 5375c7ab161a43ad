-- The place at which a parser is, and what it has read.
use Rattle.std.specs.Prelude.{List, Option, true, ℕ, [], ⊤, ◌≡◌}
use Rattle.vte_core.specs.declared.parser.machine.Machine.{Machine}
use Rattle.vte_core.specs.declared.parser.open.Open.{Open}
use Rattle.vte_core.specs.declared.parser.open.Open.TheVariants as kind
use Rattle.vte_core.specs.declared.parser.State.{State}
use Rattle.vte_core.specs.declared.parser.State.TheVariants.{ControlSequence, DeviceControl, DeviceData, Escape, EscapeIntermediate, IgnoredString, SystemCommand, Text}
use Rattle.vte_core.specs.declared.utf8.OpenCharacter.TheVariants.{Empty}
use Rattle.vte_core.specs.private.CollectedHead.{HasReadHead, HoldsIntermediates}
use Rattle.vte_core.specs.private.OpenCharacter.{bytes_of, may_continue}
use Rattle.vte_core.specs.private.Place.{AtEscape, InControlSequence, InDeviceControl, InDeviceData, InEscape, InIgnoredString, InSystemCommand, InText, IsAfter, Place}
use Rattle.vte_core.specs.private.Store.{HoldsItems}

-- What the state says of the place.
abbrev pub IsPlaceOfState : {B : Type 0} → Option ℕ → State → Machine B → Place → Type 0
IsPlaceOfState limit (Text opened) parser (InText bytes) =
    (bytes_of opened ≡ bytes) × (may_continue bytes ≡ true)
IsPlaceOfState limit Escape parser AtEscape = HoldsIntermediates parser.collected []
IsPlaceOfState limit EscapeIntermediate parser (InEscape intermediates) =
    HoldsIntermediates parser.collected intermediates
IsPlaceOfState limit (ControlSequence reached) parser (InControlSequence head) =
    HasReadHead parser.collected reached head
IsPlaceOfState limit (DeviceControl reached) parser (InDeviceControl head) =
    HasReadHead parser.collected reached head
IsPlaceOfState limit DeviceData parser InDeviceData = ⊤
IsPlaceOfState limit SystemCommand parser (InSystemCommand items) =
    HoldsItems limit parser.command items
IsPlaceOfState limit IgnoredString parser InIgnoredString = ⊤
IsPlaceOfState limit _ parser _ = ⊥

-- The parser is at the place: its fields hold what the place says.
pub record IsAtPlace {B : Type 0} (limit : Option ℕ) (parser : Machine B)
    (place : Place) : Type 0 where
  pub fields : IsPlaceOfState limit parser.state parser place

-- The parser continues as one that has read the stream: with more bytes, the stream gives its own
-- events and then what those bytes give after a place at which the parser is.
pub record HasReadWithLimit {B : Type 0} (limit : Option ℕ) (parser : Machine B)
    (stream : List ℕ) : Type 0 where
  pub place : Place
  pub is_at : IsAtPlace limit parser place
  pub is_after : IsAfter limit stream place

-- What is open in a state.
abbrev pub open_in : State → Open
open_in (Text Empty) = kind.Nothing
open_in (Text opened) = kind.Character
open_in Escape = kind.EscapeSequence
open_in EscapeIntermediate = kind.EscapeSequence
open_in (ControlSequence reached) = kind.ControlSequence
open_in (DeviceControl reached) = kind.DeviceControl
open_in DeviceData = kind.DeviceControl
open_in SystemCommand = kind.SystemCommand
open_in IgnoredString = kind.IgnoredString

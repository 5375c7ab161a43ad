-- What is known of a parser that is at a place, and that a clone of it, or one made of what was saved of it, is at the
-- same: by cases of its state, to each of which belongs one kind of place.
use Rattle.vte_core.proofs.Common.{ap, append-nil, arith, AtEscape, body_outcome, ControlSequence, default_limit, device_data_outcome, DeviceControl, DeviceData, Empty, Escape, EscapeIntermediate, events_from, executed_events, HasReadHead, HasReadWithLimit, HoldsIntermediates, HoldsItems, IgnoredString, InControlSequence, InDeviceControl, InDeviceData, InEscape, InIgnoredString, InSystemCommand, InText, is_truncated, IsAtPlace, IsPlaceOfState, IsSettledPlace, leaves, List, Machine, may_continue, open_at, open_bytes, Option, outcome_from, Place, refl, rest_outcome, rules, SameItems, State, StoredCommand, subst, SystemCommand, take, Text, text_outcome, to_close_at, true, ℕ, [], ◌++◌, ◌∷◌, ◌≡◌}
use Rattle.vte_core.proofs.lemmas.shapes.FirstSegment.{text_outcome-end, text_outcome-nothing}
use Rattle.vte_core.specs.declared.parser.saved.Saved.{Saved}
use Rattle.vte_core.specs.IgnoredString.{ignored_string_outcome}
use Rattle.vte_core.specs.private.FlatGroups.{AreRawParts}
use Rattle.vte_core.specs.private.Place.{control_sequence_from, device_control_from, escape_from, system_command_from}
use Rattle.vte_core.specs.private.SavedLayout.{flag_of, HasIntermediates, IsInHead, IsRestored, state_bytes}
use Rattle.vte_core.specs.private.Store.{ArePieceEnds}
use Rattle.vte_core.specs.Saved.{HasReadSaved}

-- If the parser is in a state at a place, it is a place of the state.
pub is_at-in : {B : Type 0} {limit : Option ℕ} {state : State} {parser : Machine B} {place : Place}
    → parser.state ≡ state → IsAtPlace limit parser place
    → IsPlaceOfState limit state parser place
is_at-in {limit} {parser} {place} in_state is_at = search (rules, arith)

-- A parser in a state is at the place that the state says.
pub is_at-by : {B : Type 0} {limit : Option ℕ} {state : State} {parser : Machine B} {place : Place}
    → parser.state ≡ state → IsPlaceOfState limit state parser place
    → IsAtPlace limit parser place
is_at-by {limit} {parser} {place} in_state fields = search (rules, arith)

escape-by_state : {B : Type 0} (limit : Option ℕ) (state : State) (parser : Machine B)
    → IsPlaceOfState limit state parser AtEscape
    → HoldsIntermediates parser.collected []
escape-by_state limit Escape parser fields = fields
escape-by_state limit _ parser fields = absurd fields

-- After ESC, no intermediates are collected.
pub is_at-escape : {B : Type 0} {limit : Option ℕ} (parser : Machine B) → IsAtPlace limit parser AtEscape
    → HoldsIntermediates parser.collected []
is_at-escape {limit} parser is_at = escape-by_state limit parser.state parser is_at.fields

-- In a command, there is one shape of places.
pub record InCommandAt {B : Type 0} (limit : Option ℕ) (parser : Machine B) (place : Place) : Type 0 where
  pub items : List ℕ
  pub same : place ≡ InSystemCommand items
  pub keeps : HoldsItems limit parser.command items

command-by_place : {B : Type 0} {limit : Option ℕ} {parser : Machine B} {place : Place}
    → IsPlaceOfState limit SystemCommand parser place → InCommandAt limit parser place
command-by_place fields = search (rules, arith)

-- A parser in a command is at such a place.
pub in_command : {B : Type 0} {limit : Option ℕ} {parser : Machine B} {place : Place} → parser.state ≡ SystemCommand
    → IsAtPlace limit parser place → InCommandAt limit parser place
in_command {limit} in_state is_at = command-by_place (is_at-in in_state is_at)

-- `IsReachable` is true of each place at which some parser is.
abbrev pub IsReachable : Place → Type 0
IsReachable (InText opened) = may_continue opened ≡ true
IsReachable _ = Unit {0}

is_reachable-by_state : {B : Type 0} (limit : Option ℕ) (state : State) (parser : Machine B) (place : Place)
    → IsPlaceOfState limit state parser place → IsReachable place
is_reachable-by_state limit state parser place fields = search (rules, arith)

-- A parser is only at reachable places.
pub is_at-place : {B : Type 0} {limit : Option ℕ} {parser : Machine B} {place : Place}
    → IsAtPlace limit parser place
    → IsReachable place
is_at-place {limit} {parser} {place} is_at = is_reachable-by_state limit parser.state parser place is_at.fields

-- `may_continue` is also true of no bytes: that is all in which it differs.
pub may_continue-truncated : (opened : List ℕ) → is_truncated opened ≡ true → may_continue opened ≡ true
may_continue-truncated [] truncated = refl
may_continue-truncated (a ∷ opened) truncated = truncated

text_outcome-open : (limit : Option ℕ) (opened : List ℕ) → may_continue opened ≡ true
    → text_outcome (opened ++ []) ≡ leaves (to_close_at limit (InText opened))
text_outcome-open limit [] continues = text_outcome-nothing
text_outcome-open limit (a ∷ opened) continues = rw append-nil (text_outcome-end (a ∷ opened) continues)

-- If no bytes follow, nothing is reported, and what is open at the place stays open.
pub rest_outcome-nothing : (limit : Option ℕ) (place : Place) → IsReachable place
    → rest_outcome limit place [] ≡ leaves (to_close_at limit place)
unfolding body_outcome executed_events escape_from control_sequence_from device_control_from device_data_outcome
    system_command_from ignored_string_outcome
rest_outcome-nothing limit (InText opened) is_reachable = text_outcome-open limit opened is_reachable
rest_outcome-nothing limit (InSystemCommand items) is_reachable = simp append-nil
rest_outcome-nothing limit _ is_reachable = refl

-- The same holds of bytes among which ESC is allowed.
pub outcome_from-nothing : (limit : Option ℕ) (place : Place) → IsReachable place
    → outcome_from limit place [] ≡ leaves (to_close_at limit place)
unfolding outcome_from
outcome_from-nothing limit place is_reachable = rest_outcome-nothing limit place is_reachable

pub events_from-nothing : (limit : Option ℕ) (place : Place) → IsReachable place → events_from limit place [] ≡ []
events_from-nothing limit place is_reachable =
    ap (λ outcome. outcome.reported) (outcome_from-nothing limit place is_reachable)

-- The open character at a place is what is left to close there, whatever the limit.
pub open_bytes-at : (limit : Option ℕ) (place : Place) → open_bytes (to_close_at limit place) ≡ open_at place
open_bytes-at limit place = search (rules, arith)

pub open_at-settled : (place : Place) → IsSettledPlace place → open_at place ≡ []
open_at-settled (InText opened) none_open = none_open
open_at-settled _ none_open = refl

-- A parser between characters is at the place of a text with nothing open.
pub is_at-between : {B : Type 0} {limit : Option ℕ} {parser : Machine B} → parser.state ≡ Text Empty
    → IsAtPlace limit parser (InText [])
is_at-between in_state = is_at-by in_state (refl, refl)

-- The capacity of a store has no effect on its items.
pub holds_items-same : {limit : Option ℕ} {old new : StoredCommand} {items : List ℕ} → SameItems old new
    → HoldsItems limit old items
    → HoldsItems limit new items
holds_items-same same holds = search (rules, arith)

-- ---- clones

-- A machine with the state of another, what is collected there and its items has read the same.

-- If the parser stays in a state, only what counts in this state must be the same.
place_of_state-same : {B C : Type 0} (limit : Option ℕ) (state : State) (old : Machine B) (new : Machine C)
    (place : Place)
    → (HasIntermediates state → (intermediates : List ℕ) → HoldsIntermediates old.collected intermediates
    → HoldsIntermediates new.collected intermediates)
    → (IsInHead state → HasIntermediates state → old.collected ≡ new.collected)
    → (state ≡ SystemCommand → SameItems old.command new.command)
    → IsPlaceOfState limit state old place → IsPlaceOfState limit state new place
place_of_state-same limit (Text still_open) old new (InText opened) same_intermediates same_head same_items fields =
    fields
place_of_state-same limit Escape old new AtEscape same_intermediates same_head same_items fields =
    same_intermediates tt [] fields
place_of_state-same limit EscapeIntermediate old new (InEscape bytes) same_intermediates same_head same_items fields =
    same_intermediates tt bytes fields
place_of_state-same limit (ControlSequence reached) old new (InControlSequence read)
    same_intermediates same_head same_items fields =
    subst (λ collected. HasReadHead collected reached read) (same_head tt tt) fields
place_of_state-same limit (DeviceControl reached) old new (InDeviceControl read)
    same_intermediates same_head same_items fields =
    subst (λ collected. HasReadHead collected reached read) (same_head tt tt) fields
place_of_state-same limit DeviceData old new InDeviceData same_intermediates same_head same_items fields = tt
place_of_state-same limit SystemCommand old new (InSystemCommand command)
    same_intermediates same_head same_items fields =
    holds_items-same (same_items refl) fields
place_of_state-same limit IgnoredString old new InIgnoredString same_intermediates same_head same_items fields = tt
place_of_state-same limit _ old new _ same_intermediates same_head same_items fields = absurd fields

pub reads_cloned : {B C : Type 0} (limit : Option ℕ) (old : Machine B) (new : Machine C) → new.state ≡ old.state
    → new.collected ≡ old.collected → SameItems old.command new.command
    → (stream : List ℕ) → HasReadWithLimit limit old stream → HasReadWithLimit limit new stream
reads_cloned limit old new state same items stream has_read = search (rules, arith)

-- ---- saved parsers

-- Everything that counts of a machine is saved: in a head the numbers, in a command its pieces.
pub record HasSaved {B : Type 0} (saved : Saved) (machine : Machine B) : Type 0 where
  pub state : saved.state ≡ state_bytes machine.state
  pub intermediates : HasIntermediates machine.state
      → take saved.intermediate_count saved.intermediates ≡ machine.collected.intermediates.items
  pub too_many_intermediates : HasIntermediates machine.state
      → flag_of saved.too_many_intermediates ≡ machine.collected.too_many_intermediates
  pub params : IsInHead machine.state
      → AreRawParts (take saved.group_count saved.lengths)
      (take saved.number_count saved.numbers) machine.collected.params
  pub number : IsInHead machine.state → saved.number ≡ machine.collected.number
  pub joined : IsInHead machine.state → flag_of saved.joined ≡ machine.collected.joined
  pub bytes : machine.state ≡ SystemCommand
      → take saved.byte_count saved.bytes ≡ machine.command.bytes
  pub ends : machine.state ≡ SystemCommand → take saved.end_count saved.ends ≡ machine.command.ends
  pub lost : machine.state ≡ SystemCommand → flag_of saved.lost ≡ machine.command.lost
  pub are_ends : machine.state ≡ SystemCommand
      → ArePieceEnds machine.command.bytes machine.command.ends

holds-saved : {B C : Type 0} {saved : Saved} {old : Machine B} {new : Machine C} {intermediates : List ℕ}
    → HasSaved saved old
    → IsRestored saved new → HasIntermediates old.state → HasIntermediates new.state
    → HoldsIntermediates old.collected intermediates → HoldsIntermediates new.collected intermediates
holds-saved has_saved restored has_old has_new holds = search (rules, arith)

collected-saved : {B C : Type 0} {saved : Saved} {old : Machine B} {new : Machine C} → HasSaved saved old
    → IsRestored saved new → IsInHead old.state × HasIntermediates old.state
    → IsInHead new.state × HasIntermediates new.state → old.collected ≡ new.collected
collected-saved has_saved restored in_old in_new = search (rules, arith)

items-saved : {B C : Type 0} {saved : Saved} {old : Machine B} {new : Machine C} → HasSaved saved old
    → IsRestored saved new → old.state ≡ SystemCommand
    → new.state ≡ SystemCommand → SameItems old.command new.command
items-saved has_saved restored old_is new_is = search (rules, arith)

-- What was saved has read what the machine has.
pub reads_saved : {B : Type 0} {saved : Saved} {machine : Machine B} → HasSaved saved machine
    → (stream : List ℕ) → HasReadWithLimit default_limit machine stream → HasReadSaved saved stream
reads_saved {machine} has_saved stream has_read =
    search (rules, arith, is_at-by, place_of_state-same, holds-saved, collected-saved, items-saved)

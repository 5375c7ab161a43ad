-- A byte that a state's function reads. The state says at which place the parser is, so what the byte does after that
-- place is what the function must have done (`takes-X`, `takes_bytes-X`); `advances-in`: then the call goes on past it.
use Rattle.vte_core.proofs.Common.{Advances, after, arith, AtEscape, BytesLead, ChunkCall, class_of, closing_events_at, DeviceData, Empty, ends_sequence, eqb, Escape, escape, EscapeIntermediate, Event, false, HoldsIntermediates, HoldsItems, IgnoredString, InDeviceData, InEscape, InIgnoredString, InSystemCommand, InText, IsAtPlace, IsPlaceOfState, IsSettled, IsSettledPlace, Leads, length, List, Machine, MayGoOn, nat_tests, Option, Place, rules, slice_index, State, subst, sym, SystemCommand, TakesByte, TakesBytes, Text, ℕ, [], ◌+◌, ◌<◌, ◌∷◌, ◌≡◌, ◌≢◌}
use Rattle.vte_core.proofs.lemmas.fields.PlaceOfState.{is_at-by, is_at-in, is_at-place}
use Rattle.vte_core.proofs.lemmas.places.BytesInStream.{bytes_lead-escape, no_escape}
use Rattle.vte_core.proofs.lemmas.positions.SettledStates.{place-settled_text}
use Rattle.vte_core.proofs.lemmas.positions.Stretches.{advances-byte, advances-weaker}
use Rattle.vte_core.proofs.lemmas.streams.After.{takes_bytes-one}
use Rattle.vte_core.specs.private.Prelude.{IsOutsideRunsInState}

-- ---- a byte between characters of a text, other than ESC

pub not_escape : (b : ℕ) → b ≢ escape → eqb b escape ≡ false
not_escape b is_no_escape = grind (arith, nat_tests)

-- Between characters, it is enough to say what a byte does in a text with nothing open.
pub takes_bytes-between : {V B : Type 0} {step : V → Event → V} {old new : V} {limit : Option ℕ} {b : ℕ}
    {parser next : Machine B} → parser.state ≡ Text Empty → b ≢ escape
    → (IsAtPlace limit parser (InText []) → TakesByte step old new limit (InText []) b next) → (place : Place)
    → IsAtPlace limit parser place → IsSettledPlace place
    → TakesBytes step old new limit place (b ∷ []) next
takes_bytes-between {step} {old} {new} {limit} {b} {parser} {next} in_state is_no_escape takes place is_at settled =
    search (rules, arith, place-settled_text, takes_bytes-one, not_escape)

-- ---- a byte in any state

module _ {V B : Type 0} {step : V → Event → V} {old new : V} {limit : Option ℕ} where
  -- A function has read a byte if it reported its events and the parser is at the place to which it leads.
  pub takes-byte : {place : Place} {byte : ℕ} {parser : Machine B} {reported : List Event} {next : Place}
      → new ≡ after step old reported → IsAtPlace limit parser next → Leads limit place byte reported next
      → TakesByte step old new limit place byte parser
  takes-byte {reported} {next} performed is_at leads = search (rules, arith)

  -- For a byte other than CAN, SUB and ESC, it is enough to say what it does at the places of the state.
  pub takes_bytes-in : {b : ℕ} {state : State} {parser next : Machine B}
      → parser.state ≡ state → ends_sequence (class_of b) ≡ false
      → ((place : Place) → IsPlaceOfState limit state parser place → TakesByte step old new limit place b next)
      → (place : Place) → IsAtPlace limit parser place → IsSettledPlace place
      → TakesBytes step old new limit place (b ∷ []) next
  takes_bytes-in {b} {next} in_state ordinary takes place is_at settled =
      takes_bytes-one (no_escape b ordinary) (takes place (is_at-in in_state is_at))

  -- ESC closes what is open at a place.
  pub takes_bytes-escape : {b : ℕ} {parser next : Machine B} → b ≡ escape
      → next.state ≡ Escape → HoldsIntermediates next.collected [] → (place : Place) → IsAtPlace limit parser place
      → new ≡ after step old (closing_events_at limit place)
      → TakesBytes step old new limit place (b ∷ []) next
  takes_bytes-escape {parser} {next} is_escape in_state holds place is_at closed =
      let leads : BytesLead limit place (escape ∷ []) (closing_events_at limit place) AtEscape =
      bytes_lead-escape (is_at-place is_at) in
      subst (λ c. TakesBytes step old new limit place (c ∷ []) next) (sym is_escape)
      (record {
        reported = closing_events_at limit place;
        next = AtEscape;
        performed = closed;
        is_at = is_at-by in_state holds;
        leads = leads;
      })

-- The call goes on past a byte other than CAN, SUB and ESC, if the function does what each place of its state says.
pub advances-in : {V B : Type 0} {call : ChunkCall V} {old new : V} {i b : ℕ} {state : State} {parser next : Machine B}
    → parser.state ≡ state → i < length call.bytes → b ≡ slice_index call.bytes i
    → MayGoOn call old → ends_sequence (class_of b) ≡ false
    → ((place : Place) → IsPlaceOfState call.limit state parser place
    → TakesByte call.step old new call.limit place b next)
    → IsSettled next.state → Advances (IsOutsideRunsInState state b) call old new i (i + 1) parser next
advances-in {b} in_state before_end byte_is may_go_on ordinary takes settled =
    advances-weaker (subst (λ (state : State). IsOutsideRunsInState state b) (sym in_state))
    (advances-byte before_end byte_is may_go_on (takes_bytes-in in_state ordinary takes) settled)

-- ---- the place in each state

-- All places of a state have one shape, so it is enough to know what the byte does at those.

module _ {V B : Type 0} {step : V → Event → V} {old new : V} {limit : Option ℕ} {b : ℕ} {next : Machine B}
    (parser : Machine B) where
  pub takes-at_escape : (HoldsIntermediates parser.collected [] → TakesByte step old new limit AtEscape b next)
      → (place : Place)
      → IsPlaceOfState limit Escape parser place → TakesByte step old new limit place b next
  takes-at_escape takes AtEscape fields = takes fields
  takes-at_escape takes _ fields = absurd fields

  pub takes-in_escape :
      ((intermediates : List ℕ) → HoldsIntermediates parser.collected intermediates
      → TakesByte step old new limit (InEscape intermediates) b next)
      → (place : Place) → IsPlaceOfState limit EscapeIntermediate parser place
      → TakesByte step old new limit place b next
  takes-in_escape takes (InEscape intermediates) fields = takes intermediates fields
  takes-in_escape takes _ fields = absurd fields

  pub takes-in_data : TakesByte step old new limit InDeviceData b next → (place : Place)
      → IsPlaceOfState limit DeviceData parser place
      → TakesByte step old new limit place b next
  takes-in_data takes InDeviceData fields = takes
  takes-in_data takes _ fields = absurd fields

  pub takes-in_system_command : ((items : List ℕ) → HoldsItems limit parser.command items
      → TakesByte step old new limit (InSystemCommand items) b next)
      → (place : Place) → IsPlaceOfState limit SystemCommand parser place → TakesByte step old new limit place b next
  takes-in_system_command takes place fields = search (rules, arith)

  pub takes-in_ignored : TakesByte step old new limit InIgnoredString b next → (place : Place)
      → IsPlaceOfState limit IgnoredString parser place → TakesByte step old new limit place b next
  takes-in_ignored takes InIgnoredString fields = takes
  takes-in_ignored takes _ fields = absurd fields

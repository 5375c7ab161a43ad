-- What a byte does in its part, a text or a body, it does in the stream (`bytes_lead-byte`), since only ESC cuts; ESC
-- closes the part (`bytes_lead-escape`). So places lead on in the stream, byte by byte (`bytes_lead-append`).
use Rattle.vte_core.proofs.Common.{ap, append_assoc, arith, AtEscape, BytesLead, Cancel, class_of, closing_events_at, cut_at_escape, ends_sequence, eqb, escape, Event, events, events_from, false, InSystemCommand, InText, Leads, List, nat_tests, Option, outcome, outcome_from, Place, refl, report, rest_outcome, rules, with_bodies, ℕ, [], ◌++◌, ◌∷◌, ◌≡◌, ◌≤◌}
use Rattle.vte_core.proofs.lemmas.fields.PlaceOfState.{IsReachable, rest_outcome-nothing}
use Rattle.vte_core.proofs.lemmas.places.PlaceLeads.{command-item}
use Rattle.vte_core.proofs.lemmas.shapes.Outcomes.{report-append, with_bodies-report}

-- The outcome of a stream is what its bytes give after nothing.
pub outcome-after_nothing : (limit : Option ℕ) (stream : List ℕ)
    → outcome limit stream ≡ outcome_from limit (InText []) stream
unfolding outcome outcome_from
outcome-after_nothing limit stream = refl

-- So its events are those after a text with nothing open.
pub events-after_nothing : (limit : Option ℕ) (stream : List ℕ)
    → events limit stream ≡ events_from limit (InText []) stream
unfolding events
events-after_nothing limit stream = ap (λ outcome. outcome.reported) (outcome-after_nothing limit stream)

outcome_from-byte : (limit : Option ℕ) (place : Place) (b : ℕ) (more : List ℕ) → eqb b escape ≡ false
    → outcome_from limit place (b ∷ more)
    ≡ with_bodies limit (rest_outcome limit place (b ∷ (cut_at_escape more).text)) (cut_at_escape more).bodies
unfolding outcome_from
outcome_from-byte limit place b more is_no_escape = simp is_no_escape

-- What a byte does in a text or a body, it also does in the stream.
pub bytes_lead-byte : {limit : Option ℕ} {place next : Place} {b : ℕ} {reported : List Event} → eqb b escape ≡ false
    → Leads limit place b reported next → BytesLead limit place (b ∷ []) reported next
unfolding outcome_from
bytes_lead-byte {limit} {place} {next} {b} {reported} is_no_escape leads =
    search (rules, arith, outcome_from-byte, with_bodies-report)

-- The same holds if the byte is still to be read.
pub waits-byte : (limit : Option ℕ) (place next : Place) (b : ℕ) (reported : List Event) (more : List ℕ)
    → eqb b escape ≡ false
    → ((rest : List ℕ) → rest_outcome limit place (b ∷ rest) ≡ report reported (rest_outcome limit next (b ∷ rest)))
    → outcome_from limit place (b ∷ more) ≡ report reported (outcome_from limit next (b ∷ more))
waits-byte limit place next b reported more is_no_escape waits =
    search (rules, arith, outcome_from-byte, with_bodies-report)

-- ESC closes what is open before it.
pub outcome_from-escape : (limit : Option ℕ) (place : Place) (more : List ℕ) → IsReachable place
    → outcome_from limit place (escape ∷ more)
    ≡ report (closing_events_at limit place) (outcome_from limit AtEscape more)
unfolding outcome_from
outcome_from-escape limit place more is_reachable = search (rules, arith, rest_outcome-nothing)

-- An ESC after any place reports what closes it, and leads to the start of a body.
pub bytes_lead-escape : {limit : Option ℕ} {place : Place} → IsReachable place
    → BytesLead limit place (escape ∷ []) (closing_events_at limit place) AtEscape
bytes_lead-escape {limit} {place} is_reachable = record {
  leads =
      λ more. outcome_from-escape limit place more is_reachable;
}

-- No bytes lead to the same place, and two stretches lead on one after the other.
pub bytes_lead-nothing : {limit : Option ℕ} {place : Place} → BytesLead limit place [] [] place
bytes_lead-nothing = record { leads = λ more. refl }

pub bytes_lead-append : {limit : Option ℕ} {place next last : Place} {bytes these : List ℕ}
    {reported more_reported : List Event} → BytesLead limit place bytes reported next
    → BytesLead limit next these more_reported last
    → BytesLead limit place (bytes ++ these) (reported ++ more_reported) last
bytes_lead-append {limit} {place} {last} {bytes} {these} {reported} {more_reported} leads reads_on =
    search (rules, arith, append_assoc, report-append)

-- A byte that ends nothing cuts no stream.
pub no_escape : (b : ℕ) → ends_sequence (class_of b) ≡ false → eqb b escape ≡ false
unfolding class_of
no_escape b no_end = grind (arith, nat_tests)

pub cancel_is_no_escape : (b : ℕ) → class_of b ≡ Cancel → eqb b escape ≡ false
unfolding class_of
cancel_is_no_escape b is_cancel = grind (arith, nat_tests)

-- ---- a byte that joins an operating system command

item_is_no_escape : (b : ℕ) → 0x20 ≤ b → eqb b escape ≡ false
item_is_no_escape b low = grind (arith, nat_tests)

-- It reports nothing, and is the last item of the next place.
pub bytes_lead-item : {limit : Option ℕ} {items : List ℕ} {b : ℕ} → 0x20 ≤ b
    → BytesLead limit (InSystemCommand items) (b ∷ []) [] (InSystemCommand (items ++ b ∷ []))
bytes_lead-item {b} low =
    bytes_lead-byte (item_is_no_escape b low) (command-item low)

-- A place is after a stream if any further bytes add the same events to both (`IsAfter`). If bytes lead from it to
-- another place, that one is after the longer stream, and their events are added (`after-leads`).
--
-- `added-X` says what `added` is in the case X, and `after-X` what `IsAfter` says of X.
use Rattle.std.proofs.Common.{eqb-true}
use Rattle.vte_core.proofs.Common.{added, after, ap, append-nil, append_assoc, arith, AtEscape, BytesLead, cases_Bool, closing_events_at, drop-append_seam, drop_all, eqb, escape, Event, events, events_from, false, HasReadWithLimit, inl, inr, InText, is_truncated, is_well_formed, IsAfter, IsAtPlace, List, Machine, open_at, open_bytes, open_character, Option, outcome, outcome_from, Place, Print, refl, replacement, report, rules, sym, TakesByte, TakesBytes, text_outcome, to_close_at, true, ℕ, [], ◌++◌, ◌∙◌, ◌∷◌, ◌≡◌, ◌⊎◌}
use Rattle.vte_core.proofs.lemmas.bytes.Utf8.{ascii-breaks, Tests}
use Rattle.vte_core.proofs.lemmas.fields.PlaceOfState.{events_from-nothing, IsReachable, may_continue-truncated, open_bytes-at, outcome_from-nothing}
use Rattle.vte_core.proofs.lemmas.places.BytesInStream.{bytes_lead-byte, events-after_nothing, outcome_from-escape, waits-byte}
use Rattle.vte_core.proofs.lemmas.shapes.FirstSegment.{text_outcome-broken}
use Rattle.vte_core.proofs.lemmas.shapes.Outcomes.{report-append}
use Rattle.vte_core.proofs.lemmas.streams.AnyLimit.{open_bytes-any}

-- ---- from a byte to bytes

-- Events are taken one by one, so parts of a list may be taken one after the other.
pub after_events-append : {V : Type 0} (step : V → Event → V) (value : V) (events others : List Event)
    → after step value (events ++ others) ≡ after step (after step value events) others
after_events-append step value [] others = refl
after_events-append step value (event ∷ events) others = after_events-append step (step value event) events others

-- `TakesByte` of a byte other than ESC is `TakesBytes` of one.
pub takes_bytes-one : {V B : Type 0} {step : V → Event → V} {old new : V} {limit : Option ℕ} {place : Place} {byte : ℕ}
    {parser : Machine B} → eqb byte escape ≡ false
    → TakesByte step old new limit place byte parser → TakesBytes step old new limit place (byte ∷ []) parser
takes_bytes-one is_no_escape takes = record {
  reported = takes.reported;
  next = takes.next;
  performed = takes.performed;
  is_at = takes.is_at;
  leads = bytes_lead-byte is_no_escape takes.leads;
}

-- ---- a byte that is offered to an open character

-- A byte that belongs to an open character is no ESC.
pub extending_is_no_escape : (opened : List ℕ) (b : ℕ) → is_truncated opened ≡ true
    → (is_well_formed (opened ++ b ∷ []) ≡ true) ⊎ (is_truncated (opened ++ b ∷ []) ≡ true) → eqb b escape ≡ false
extending_is_no_escape opened b truncated carried = elim (cases_Bool (eqb b escape)) [
  | inl is_escape ↦
      let same : b ≡ escape = eqb-true b escape is_escape in
      let tests : Tests (opened ++ b ∷ []) false false = ascii-breaks opened b truncated (omega arith) in
      elim carried [
        | inl well_formed ↦ cc (well_formed, tests.is_whole)
        | inr still_open ↦ cc (still_open, tests.is_open)
      ]
  | inr other ↦ other
]

closing-open : (limit : Option ℕ) (opened : List ℕ) → is_truncated opened ≡ true
    → closing_events_at limit (InText opened) ≡ Print replacement ∷ []
unfolding is_truncated
closing-open limit [] truncated = cc
closing-open limit (a ∷ opened) truncated = refl

-- A byte that breaks a character is still to be read, even ESC.
pub waits-broken : (limit : Option ℕ) (opened : List ℕ) (b : ℕ) (more : List ℕ) → is_truncated opened ≡ true
    → is_well_formed (opened ++ b ∷ []) ≡ false → is_truncated (opened ++ b ∷ []) ≡ false
    → outcome_from limit (InText opened) (b ∷ more)
    ≡ report (Print replacement ∷ []) (outcome_from limit (InText []) (b ∷ more))
waits-broken limit opened b more truncated not_well_formed_after not_truncated_after =
    elim (cases_Bool (eqb b escape)) [
      | inr other ↦
          waits-byte limit (InText opened) (InText []) b (Print replacement ∷ []) more other
          (text_outcome-broken opened b truncated not_well_formed_after not_truncated_after)
      | inl same ↦
          let is_escape : b ≡ escape = eqb-true b escape same in
          let there : outcome_from limit (InText []) (escape ∷ more) ≡ outcome_from limit AtEscape more =
          outcome_from-escape limit (InText []) more refl in
          rw is_escape (
          outcome_from-escape limit (InText opened) more (may_continue-truncated opened truncated)
          ∙ ap (λ events. report events (outcome_from limit AtEscape more)) (closing-open limit opened truncated)
          ∙ ap (report (Print replacement ∷ [])) (sym there)
          )
    ]

pub events-empty : (limit : Option ℕ) → events limit [] ≡ []
events-empty limit = events-after_nothing limit [] ∙ events_from-nothing limit (InText []) refl

-- ---- what further bytes add, from the place after the stream

pub added-nothing : (limit : Option ℕ) (stream : List ℕ) → added limit stream [] ≡ []
added-nothing limit stream = search (rules, arith, append-nil, drop_all)

-- For proofs that don't unfold `events`.
pub events-reported : (limit : Option ℕ) (stream : List ℕ) → events limit stream ≡ (outcome limit stream).reported
unfolding events
events-reported limit stream = refl

-- A new parser is in a text with nothing open.
pub after-nothing : {limit : Option ℕ} → IsAfter limit [] (InText [])
unfolding outcome events outcome_from text_outcome
after-nothing {limit} = search (rules, arith)

-- What follows a stream reports what it reports after the place.
pub after-events : {limit : Option ℕ} {stream : List ℕ} (more : List ℕ) {place : Place} → IsAfter limit stream place
    → events limit (stream ++ more) ≡ events limit stream ++ events_from limit place more
unfolding events
after-events {limit} {stream} more is_after = search (rules, arith)

-- What the stream leaves open is open at the place.
pub after-to_close : {limit : Option ℕ} {stream : List ℕ} {place : Place} → IsAfter limit stream place
    → IsReachable place
    → (outcome limit stream).to_close ≡ to_close_at limit place
after-to_close {limit} {stream} {place} is_after is_reachable =
    ap (λ s. (outcome limit s).to_close) (sym (append-nil stream)) ∙ ap (λ o. o.to_close) (is_after.same_outcomes [])
    ∙ ap (λ o. o.to_close) (outcome_from-nothing limit place is_reachable)

-- The character that the stream leaves open is the one at the place.
pub after-open_character : {limit : Option ℕ} {stream : List ℕ} {place : Place} → IsAfter limit stream place
    → IsReachable place
    → open_character stream ≡ open_at place
after-open_character {limit} {stream} {place} is_after is_reachable =
    sym (open_bytes-any limit stream) ∙ ap open_bytes (after-to_close is_after is_reachable) ∙ open_bytes-at limit place

-- If the bytes after a stream lead from its place to a next one, the longer stream leads to that place.
pub after-leads : {limit : Option ℕ} {stream bytes : List ℕ} {place next : Place} {reported : List Event}
    → IsAfter limit stream place → BytesLead limit place bytes reported next → IsReachable next
    → IsAfter limit (stream ++ bytes) next
after-leads {limit} {stream} {bytes} {next} {reported} is_after leads is_reachable = record {
  same_outcomes =
      λ more. outcome_reads more ∙ ap (λ events. report events (outcome_from limit next more)) (sym events_read);
}
  where
    outcome_reads : (more : List ℕ)
        → outcome limit ((stream ++ bytes) ++ more)
        ≡ report (events limit stream ++ reported) (outcome_from limit next more)
    outcome_reads more =
        ap (outcome limit) (append_assoc stream bytes more)
        ∙ is_after.same_outcomes (bytes ++ more)
        ∙ ap (report (events limit stream)) (leads.leads more)
        ∙ sym (report-append (events limit stream) reported (outcome_from limit next more))

    events_read : events limit (stream ++ bytes) ≡ events limit stream ++ reported
    events_read =
        ap (events limit) (sym (append-nil (stream ++ bytes)))
        ∙ events-reported limit ((stream ++ bytes) ++ [])
        ∙ ap (λ o. o.reported) (outcome_reads [])
        ∙ ap (λ es. (events limit stream ++ reported) ++ es) (events_from-nothing limit next is_reachable)
        ∙ append-nil (events limit stream ++ reported)

-- What is added to a stream is what follows its place.
pub added-after : {limit : Option ℕ} {stream : List ℕ} (bytes : List ℕ) {place : Place} → IsAfter limit stream place
    → added limit stream bytes ≡ events_from limit place bytes
added-after {limit} {stream} bytes {place} is_after = search (rules, arith, after-events, drop-append_seam)

-- What bytes that lead to a place add is what they report.
pub added-leads : {limit : Option ℕ} {stream bytes : List ℕ} {place next : Place} {reported : List Event}
    → IsAfter limit stream place → BytesLead limit place bytes reported next → IsReachable next
    → added limit stream bytes ≡ reported
added-leads {limit} {bytes} {place} {next} {reported} is_after leads is_reachable =
    added-after bytes is_after
    ∙ ap (events_from limit place) (sym (append-nil bytes)) ∙ ap (λ o. o.reported) (leads.leads [])
    ∙ ap (λ events. reported ++ events) (events_from-nothing limit next is_reachable) ∙ append-nil reported

-- A parser between characters of a text has read what gives no events.
pub has_read-nothing : {B : Type 0} {limit : Option ℕ} {parser : Machine B} → IsAtPlace limit parser (InText [])
    → HasReadWithLimit limit parser []
has_read-nothing is_at = record { place = InText []; is_at = is_at; is_after = after-nothing }

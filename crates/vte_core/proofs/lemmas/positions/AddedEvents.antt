-- What is reported from position to position. A call is followed with a performer that keeps all events; so what any
-- performer receives is a function of the bytes, and a stretch that reports no run is known by its events.
use Rattle.vte_core.proofs.Common.{added, AddsOutsideRuns, after, All, All-append, All-cons, All-drop, All-nil, ap, append-nil, append_assoc, arith, breaks_at, BytesLead, cases_Bool, chunk_call, ChunkCall, drop, Event, false, false≢true, HasReadWithLimit, inl, inr, IsAfter, IsAtPosition, IsInsidePosition, IsOutsideRuns, IsPlaceOfState, IsSettled, length, List, Machine, open_character, Option, Place, Print, PrintsNoAscii, refl, replacement, reported_before, ReportsOutsideRuns, resumed_stream, rules, slice_index, State, subst, sym, take, ℕ, [], ◌++◌, ◌+◌, ◌<◌, ◌∙◌, ◌∷◌, ◌≡◌}
use Rattle.vte_core.proofs.lemmas.bytes.Each.{one_byte}
use Rattle.vte_core.proofs.lemmas.fields.PlaceOfState.{IsReachable}
use Rattle.vte_core.proofs.lemmas.places.PlaceSteps.{steps}
use Rattle.vte_core.proofs.lemmas.places.Steps.{AreOutsideRuns, IsOutsideRunsAtPlace}
use Rattle.vte_core.proofs.lemmas.positions.CallEnds.{starts-at}
use Rattle.vte_core.proofs.lemmas.positions.Progress.{stretch-added}
use Rattle.vte_core.proofs.lemmas.shapes.BrokenCharacters.{reported-broken, reported-settled}
use Rattle.vte_core.proofs.lemmas.streams.After.{added-leads, added-nothing}
use Rattle.vte_core.proofs.lemmas.streams.StreamSteps.{prints_no_ascii, prints_no_ascii-all, prints_no_ascii-character}
use Rattle.vte_core.specs.private.Progress.{AddsCharacter, HasProgress}
use Rattle.vte_core.specs.private.ToRun.{IsOutsideRunsInState}

-- ---- a performer that keeps all events

-- The performer that keeps all events is where any performer is (`recorded-at`), and its value is what was reported
-- (`reported-at`).

-- The step of this performer.
abbrev pub keep : List Event → Event → List Event
keep events event = events ++ event ∷ []

-- A call with it that can't stop.
abbrev pub keeping : Option ℕ → List ℕ → ChunkCall (List Event)
keeping limit bytes = chunk_call false keep (λ _. false) limit bytes

after-keep : (given more : List Event) → after keep given more ≡ given ++ more
after-keep given [] = sym (append-nil given)
after-keep given (event ∷ more) = after-keep (given ++ event ∷ []) more ∙ append_assoc given (event ∷ []) more

progress-recorded : {V : Type 0} {call : ChunkCall V} {old value : V} {stream : List ℕ} {i : ℕ} {given : List Event}
    {read : List ℕ} {place : Place} → HasProgress call old value stream i given read place
    → HasProgress (keeping call.limit call.bytes) [] given stream i given read place
progress-recorded {given} progress =
    record {
      performed = sym (after-keep [] given);
      is_after = progress.is_after;
      earlier = λ asks. absurd (false≢true asks);
    }

recorded-is : {limit : Option ℕ} {stream bytes : List ℕ} {i : ℕ} {value given : List Event} {read : List ℕ}
    {place : Place} → HasProgress (keeping limit bytes) [] value stream i given read place → value ≡ given
recorded-is {given} progress = progress.performed ∙ after-keep [] given

module _ {V B : Type 0} {call : ChunkCall V} {old value : V} {stream : List ℕ} {i : ℕ} {parser : Machine B} where
  pub recorded-at : IsAtPosition call old value stream i parser
      → IsAtPosition (keeping call.limit call.bytes) [] (reported_before call.limit stream call.bytes i) stream i parser
  recorded-at position =
      record {
        place = position.place;
        is_at = position.is_at;
        settled = position.settled;
        progress = progress-recorded position.progress;
      }

  pub recorded-inside : IsInsidePosition call old value stream i parser
      → IsInsidePosition (keeping call.limit call.bytes) []
      (added call.limit stream (take i call.bytes)) stream i parser
  recorded-inside inside = record {
    place = inside.place;
    is_at = inside.is_at;
    progress = progress-recorded inside.progress;
  }

pub reported-at : {B : Type 0} {value : List Event} {limit : Option ℕ} {stream bytes : List ℕ} {i : ℕ}
    {parser : Machine B} → IsAtPosition (keeping limit bytes) [] value stream i parser
    → value ≡ reported_before limit stream bytes i
reported-at position = recorded-is position.progress

-- Inside a character, its value is what the bytes before the position add.
pub added-inside : {B : Type 0} {value : List Event} {limit : Option ℕ} {stream bytes : List ℕ} {i : ℕ}
    {parser : Machine B} → IsInsidePosition (keeping limit bytes) [] value stream i parser
    → value ≡ added limit stream (take i bytes)
added-inside inside = recorded-is inside.progress

-- ---- what a state reads outside of text and data, it reads so at its place

outside_runs-all : (events : List Event) → AreOutsideRuns events → All IsOutsideRuns events
outside_runs-all [] are_outside = All-nil IsOutsideRuns
outside_runs-all (event ∷ []) are_outside = All-cons IsOutsideRuns event [] are_outside (All-nil IsOutsideRuns)
outside_runs-all (event ∷ next ∷ events) are_outside = All-cons IsOutsideRuns event (next ∷ events) are_outside.0
    (outside_runs-all (next ∷ events) are_outside.1)

pub outside_runs-place : {B : Type 0} (limit : Option ℕ) (state : State) (parser : Machine B) (place : Place) (b : ℕ)
    → IsOutsideRunsInState state b → IsPlaceOfState limit state parser place → IsOutsideRunsAtPlace place b
outside_runs-place limit state parser place b outside fields = search (rules, arith)

-- ---- what is reported between two positions

-- If no byte reports a run, neither does the stretch (`adds-leads`), and stretches compose (`adds-then`).

module _ {limit : Option ℕ} {stream bytes : List ℕ} {i : ℕ} where
  -- A stretch that adds nothing reports no run.
  pub adds-same : {j : ℕ} → reported_before limit stream bytes i ≡ reported_before limit stream bytes j
      → AddsOutsideRuns limit stream bytes i j
  adds-same same = search (rules, arith)

  pub adds-then : {j k : ℕ} → AddsOutsideRuns limit stream bytes i j
      → AddsOutsideRuns limit stream bytes j k → AddsOutsideRuns limit stream bytes i k
  adds-then adds adds_more = record {
    events = adds.events ++ adds_more.events;
    events_are = All-append IsOutsideRuns adds.events adds_more.events adds.events_are adds_more.events_are;
    parts =
        adds_more.parts ∙ ap (λ (events : List Event). events ++ adds_more.events) adds.parts
        ∙ append_assoc (reported_before limit stream bytes i) adds.events adds_more.events;
  }

  pub adds-leads : {b : ℕ} {place next : Place} {reported : List Event}
      → i < length bytes → b ≡ slice_index bytes i
      → IsAfter limit (resumed_stream stream bytes i) place → BytesLead limit place (b ∷ []) reported next
      → IsReachable next
      → All IsOutsideRuns reported → AddsOutsideRuns limit stream bytes i (i + 1)
  adds-leads {b} {place} {next} {reported} before_end byte_is is_after leads is_reachable are_outside =
      let one = one_byte bytes i b before_end byte_is in
      let before : List Event = reported_before limit stream bytes i in
      let all : added limit stream (take (i + 1) bytes) ≡ before ++ reported =
      stretch-added limit stream bytes i (i + 1) (omega arith)
      ∙ ap (λ (events : List Event). before ++ events)
      (ap (added limit (resumed_stream stream bytes i)) one
      ∙ added-leads is_after leads is_reachable) in
      elim (cases_Bool (breaks_at stream bytes (i + 1))) [
        | inl broken ↦ record {
          events = reported ++ Print replacement ∷ [];
          events_are =
              All-append IsOutsideRuns reported (Print replacement ∷ []) are_outside
              (All-cons IsOutsideRuns (Print replacement) [] refl (All-nil IsOutsideRuns));
          parts =
              reported-broken limit stream bytes (i + 1) broken
              ∙ ap (λ (events : List Event). events ++ Print replacement ∷ []) all
              ∙ append_assoc before reported (Print replacement ∷ []);
        }
        | inr whole ↦ record {
          events = reported;
          events_are = are_outside;
          parts = reported-settled limit stream bytes (i + 1) whole
              ∙ all;
        }
      ]

  -- A byte outside of text and data reports no run.
  pub adds-outside_runs : {b : ℕ} {place : Place} → i < length bytes
      → b ≡ slice_index bytes i → IsAfter limit (resumed_stream stream bytes i) place
      → IsReachable place → IsOutsideRunsAtPlace place b → AddsOutsideRuns limit stream bytes i (i + 1)
  adds-outside_runs {b} {place} before_end byte_is is_after is_reachable outside =
      let step = steps is_reachable in
      adds-leads before_end byte_is is_after step.leads step.is_reachable
      (outside_runs-all step.reported (step.outside_runs outside))

  -- If the first byte of a character reported nothing, what is added from it on are the events of the character.
  pub adds-character : {opened : List ℕ} {j : ℕ} (adds : AddsCharacter limit stream opened bytes (i + 1) j)
      → reported_before limit stream bytes i ≡ added limit stream (take (i + 1) bytes) → All IsOutsideRuns adds.events
      → AddsOutsideRuns limit stream bytes i j
  adds-character adds silent are_outside = search (rules, arith)

-- ---- before a run

-- First nothing is reported, then what an open character is, then stretches of which none reports a run.

-- None but the first event may be one of a run.
abbrev AllAfterFirst : List Event → Type 0
AllAfterFirst events = All IsOutsideRuns (drop 1 events)

after_first-append : (reported events : List Event) → AllAfterFirst reported → All IsOutsideRuns events
    → AllAfterFirst (reported ++ events)
after_first-append [] events first are_outside = All-drop IsOutsideRuns 1 events are_outside
after_first-append (event ∷ reported) events first are_outside =
    All-append IsOutsideRuns reported events first are_outside

-- At the start of a call, nothing is reported.
pub reports-nothing : {B : Type 0} {limit : Option ℕ} {stream bytes : List ℕ} {parser : Machine B}
    → IsSettled parser.state → HasReadWithLimit limit parser stream → ReportsOutsideRuns limit stream bytes 0
reports-nothing {limit} {stream} {bytes} settled has_read =
    let nothing : [] ≡ reported_before limit stream bytes 0 =
    reported-at (starts-at {call = keeping limit bytes} settled has_read) in
    record {
      outside_runs = λ _. subst (All IsOutsideRuns) nothing (All-nil IsOutsideRuns);
      after_first = subst AllAfterFirst nothing (All-nil IsOutsideRuns);
      no_ascii = subst (All PrintsNoAscii) nothing (All-nil PrintsNoAscii);
    }

-- Of a character that was open before the call, all events but the first are outside runs, and none prints ASCII.
pub reports-open : {limit : Option ℕ} {stream opened bytes : List ℕ} {j : ℕ}
    → AddsCharacter limit stream opened bytes 0 j
    → (open_character stream ≡ [] → ⊥) → ReportsOutsideRuns limit stream bytes j
reports-open {limit} {stream} {bytes} {j} adds some_open =
    let all : reported_before limit stream bytes j ≡ adds.events =
    adds.parts ∙ ap (λ (events : List Event). events ++ adds.events) (added-nothing limit stream) in
    record {
      outside_runs = λ closed. absurd (some_open closed);
      after_first = subst AllAfterFirst (sym all) (elim adds.events_are [
        | inl others ↦ All-drop IsOutsideRuns 1 adds.events others
        | inr whole ↦ subst AllAfterFirst (sym whole.event_is) (All-nil IsOutsideRuns)
      ]);
      no_ascii = subst (All PrintsNoAscii) (sym all) (elim adds.events_are [
        | inl others ↦ prints_no_ascii-all adds.events others
        | inr whole ↦
            subst (All PrintsNoAscii) (sym whole.event_is)
            (prints_no_ascii-character _ (prints_no_ascii _ whole.well_formed whole.several_bytes))
      ]);
    }

-- What is reported up to position i, and what is added up to position j, are reported up to j.
pub reports-more : {limit : Option ℕ} {stream bytes : List ℕ} {i j : ℕ} → ReportsOutsideRuns limit stream bytes i
    → AddsOutsideRuns limit stream bytes i j → ReportsOutsideRuns limit stream bytes j
reports-more {limit} {stream} {bytes} {i} reports adds = record {
  outside_runs =
      λ closed.
      subst (All IsOutsideRuns) (sym adds.parts)
      (All-append IsOutsideRuns (reported_before limit stream bytes i) adds.events (reports.outside_runs closed)
      adds.events_are);
  after_first =
      subst AllAfterFirst (sym adds.parts)
      (after_first-append (reported_before limit stream bytes i) adds.events reports.after_first adds.events_are);
  no_ascii =
      subst (All PrintsNoAscii) (sym adds.parts)
      (All-append PrintsNoAscii (reported_before limit stream bytes i) adds.events reports.no_ascii
      (prints_no_ascii-all adds.events adds.events_are));
}

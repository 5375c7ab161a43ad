-- What a run of text does to a call's progress: its characters one by one do the same. By induction over the
-- characters, and for the performer by its contract over the whole run.
use Rattle.std.proofs.lemmas.List.{take-take}
use Rattle.std.proofs.lemmas.Str.{encodes-chars, scalars-chars}
use Rattle.vte_core.proofs.Common.{added, Advances, after, All, All-append, All-head, All-nil, All-tail, AnyEvents, ap, append-nil, arith, Bool, breaks_at, BytesLead, cases_Bool, character_event, chars, ChunkCall, cut_at_escape, drop, Empty, encode, encodes, escape, Event, events, false, inl, inr, InText, is_control_character, IsAtPlace, IsAtPosition, IsInsidePosition, IsPrintedAscii, IsUtf8, IsUtf8Run, length, List, Machine, malformed_event, map, MayGoOn, nat_tests, NoCharacterStops, Option, outcome_from, Print, PrintsRun, ProgressAt, refl, replacement, reported_before, resumed_stream, rules, run_event, slice_index, StaysInRun, subst, sym, take, take-append-drop, Text, text_outcome, true, with_bodies, ℕ, [], ◌++◌, ◌+◌, ◌-◌, ◌<◌, ◌∙◌, ◌∷◌, ◌≡◌, ◌≢◌, ◌≤◌}
use Rattle.vte_core.proofs.lemmas.bytes.Each.{each-one}
use Rattle.vte_core.proofs.lemmas.bytes.Runs.{chars-one, layout-is_control_character, run-ascii, run_event-no_control, run_event-printed}
use Rattle.vte_core.proofs.lemmas.dividing.Utf8Agrees.{cut-text, text_outcome-encodes}
use Rattle.vte_core.proofs.lemmas.positions.CallEnds.{settles}
use Rattle.vte_core.proofs.lemmas.positions.Progress.{progress-further, stretch-added}
use Rattle.vte_core.proofs.lemmas.positions.SettledStates.{place-settled_text, settled-same_state}
use Rattle.vte_core.proofs.lemmas.shapes.BrokenCharacters.{reported-broken, reported-settled}
use Rattle.vte_core.proofs.lemmas.shapes.Outcomes.{with_bodies-report}
use Rattle.vte_core.proofs.lemmas.streams.After.{added-leads, after_events-append}
use Rattle.vte_core.proofs.lemmas.streams.EarlyStops.{added-append}
use Rattle.vte_core.proofs.lemmas.streams.StreamSteps.{reported_by_stream}

-- ---- what a text gives, and a run

-- The events of its characters, since no byte of a run is ESC (`bytes_lead-text`).

bytes_lead-characters : {limit : Option ℕ} {text : List ℕ} → IsUtf8 text → All (λ b. b ≢ escape) text
    → BytesLead limit (InText []) text (map character_event (chars text)) (InText [])
unfolding outcome_from
bytes_lead-characters {limit} {text} is_utf8 no_escapes = record {
  leads = λ more.
      let cut = cut_at_escape more in
      ap (λ c. with_bodies limit (text_outcome c.text) c.bodies) (cut-text text more no_escapes)
      ∙ ap (λ bytes. with_bodies limit (text_outcome (bytes ++ cut.text)) cut.bodies) (sym (encodes-chars text is_utf8))
      ∙ ap (λ part. with_bodies limit part cut.bodies)
      (text_outcome-encodes (chars text) cut.text (scalars-chars text is_utf8))
      ∙ with_bodies-report limit (map character_event (chars text)) (text_outcome cut.text) cut.bodies;
}

-- A text of the library without ESC gives one event per character.
pub reported_as_characters : (limit : Option ℕ) (text : List ℕ) → IsUtf8 text → All (λ b. b ≢ escape) text
    → events limit text ≡ map character_event (chars text)
reported_as_characters limit text is_utf8 no_escapes =
    reported_by_stream refl (bytes_lead-characters is_utf8 no_escapes)

plain-event : (layout : Bool) (scalar : ℕ) → StaysInRun layout scalar → character_event scalar ≡ run_event layout scalar
unfolding character_event
plain-event layout scalar plain = grind (arith, nat_tests, layout-is_control_character scalar)

plain-events : (layout : Bool) (characters : List ℕ) → All (StaysInRun layout) characters
    → map character_event characters ≡ map (run_event layout) characters
plain-events layout [] plain = refl
plain-events layout (c ∷ characters) plain =
    let first = plain-event layout c (All-head (StaysInRun layout) c characters plain) in
    let rest = plain-events layout characters (All-tail (StaysInRun layout) c characters plain) in
    cc

replacement-event : (layout : Bool) → run_event layout replacement ≡ Print replacement
replacement-event layout = grind arith

no_escape-encode : (layout : Bool) (scalar : ℕ) → StaysInRun layout scalar → All (λ b. b ≢ escape) (encode scalar)
unfolding encode
no_escape-encode layout scalar plain = search (rules, arith)

no_escape-encodes : (layout : Bool) (characters : List ℕ) → All (StaysInRun layout) characters
    → All (λ b. b ≢ escape) (encodes characters)
no_escape-encodes layout [] plain = All-nil (λ b. b ≢ escape)
no_escape-encodes layout (c ∷ characters) plain =
    All-append (λ b. b ≢ escape) (encode c) (encodes characters)
    (no_escape-encode layout c (All-head (StaysInRun layout) c characters plain))
    (no_escape-encodes layout characters (All-tail (StaysInRun layout) c characters plain))

no_escape-run : (layout : Bool) (run : List ℕ) → IsUtf8Run layout run → All (λ b. b ≢ escape) run
no_escape-run layout run is_run =
    subst (All (λ b. b ≢ escape)) (encodes-chars run is_run.utf8) (no_escape-encodes layout (chars run) is_run.plain)

-- A run leads from a text with nothing open back there.
pub bytes_lead-text : {limit : Option ℕ} {layout : Bool} {run : List ℕ} → IsUtf8Run layout run
    → BytesLead limit (InText []) run (map (run_event layout) (chars run)) (InText [])
bytes_lead-text {limit} {layout} {run} is_run =
    subst (λ events. BytesLead limit (InText []) run events (InText [])) (plain-events layout (chars run) is_run.plain)
    (bytes_lead-characters is_run.utf8 (no_escape-run layout run is_run))

-- ---- a run of one byte of ASCII

pub prints-one : {V : Type 0} {layout : Bool} {step : V → Event → V} {old new : V} {bytes : List ℕ} {from b scalar : ℕ}
    → from < length bytes → b ≡ slice_index bytes from → IsPrintedAscii b → scalar ≡ b
    → new ≡ step old (Print scalar) → PrintsRun layout step old new bytes from (from + 1)
prints-one {layout} {step} {old} {bytes} {from}
    {b} before_end byte_is printed same performed = record {
      run = run-ascii layout bytes from (from + 1)
          (each-one IsPrintedAscii bytes from (subst IsPrintedAscii byte_is printed));
      printed = performed ∙ ap (λ number. step old (Print number)) same
          ∙ ap (λ event. step old event) (sym (run_event-printed layout b printed))
          ∙ ap (λ cs. after step old (map (run_event layout) cs))
          (sym (chars-one bytes from b before_end byte_is printed));
    }

-- ---- a performer that no character stops

-- A call may stop before each character of a run; such a performer goes on past all (`advances-text`).

module _ {V : Type 0} (layout : Bool) (call : ChunkCall V)
    (never : NoCharacterStops layout call.step call.is_terminated) where
  not_stopped : (value : V) (given rest : List Event) (characters : List ℕ)
      → given ++ rest ≡ map (run_event layout) characters
      → call.is_terminated value ≡ false → call.is_terminated (after call.step value given) ≡ false
  not_stopped value [] rest characters same goes = goes
  not_stopped value (event ∷ given) rest [] same goes = cc
  not_stopped value (event ∷ given) rest (c ∷ characters) same goes =
      let first : event ≡ run_event layout c = cc in
      let others : given ++ rest ≡ map (run_event layout) characters = cc in
      not_stopped (call.step value event) given rest characters others
      (ap (λ event. call.is_terminated (call.step value event)) first ∙ never value c goes)

  -- The U+FFFD of a broken character doesn't stop the performer either.
  not_stopped-reported : (value : V) (stream : List ℕ) (k : ℕ)
      → call.is_terminated (after call.step value (added call.limit stream (take k call.bytes))) ≡ false
      → call.is_terminated (after call.step value (reported_before call.limit stream call.bytes k)) ≡ false
  not_stopped-reported value stream k goes = elim (cases_Bool (breaks_at stream call.bytes k)) [
    | inl broken ↦
        rw (
          reported-broken call.limit stream call.bytes k broken,
          after_events-append call.step value (added call.limit stream (take k call.bytes)) (Print replacement ∷ []),
        )
        (rw (replacement-event layout) at
        (never (after call.step value (added call.limit stream (take k call.bytes))) replacement goes))
    | inr unbroken ↦ rw (reported-settled call.limit stream call.bytes k unbroken) goes
  ]

-- No character of a run stops a call.
pub may_go_on-text : {V : Type 0} {layout : Bool} (call : ChunkCall V) {old new : V} {i j : ℕ}
    → (call.may_stop ≡ true → NoCharacterStops layout call.step call.is_terminated) → MayGoOn call old
    → PrintsRun layout call.step old new call.bytes i j → MayGoOn call new
may_go_on-text {layout} call {old} {i} {j} never may_go_on prints asks =
    let cs = chars (take (j - i) (drop i call.bytes)) in
    ap call.is_terminated prints.printed
    ∙ not_stopped layout call (never asks) old (map (run_event layout) cs) [] cs
    (append-nil (map (run_event layout) cs)) (may_go_on asks)

-- What is malformed in runs is reported by U+FFFD, which is a character too.
pub may_go_on-malformed : {V : Type 0} (layout : Bool) (call : ChunkCall V) {old new : V} {b : ℕ}
    → (call.may_stop ≡ true → NoCharacterStops layout call.step call.is_terminated) → MayGoOn call old → 0xa0 ≤ b
    → new ≡ call.step old (malformed_event (b ∷ [])) → MayGoOn call new
unfolding malformed_event
may_go_on-malformed layout call {old} {b} never may_go_on high performed asks =
    let printed : is_control_character b ≡ false = grind (arith, nat_tests) in
    let event : malformed_event (b ∷ []) ≡ run_event layout replacement =
    rw printed (sym (run_event-no_control layout refl)) in
    rw (performed, event) (never asks old replacement (may_go_on asks))

-- A call advances by a run of text.
pub advances-text : {V B : Type 0} {call : ChunkCall V} {layout : Bool} {old new : V} {i j : ℕ} {parser : Machine B}
    → (call.may_stop ≡ true → NoCharacterStops layout call.step call.is_terminated) → MayGoOn call old
    → parser.state ≡ Text Empty → i < j → j ≤ length call.bytes
    → PrintsRun layout call.step old new call.bytes i j → Advances AnyEvents call old new i j parser parser
advances-text {V} {call} {layout} {old} {new} {i} {j} {parser}
    never may_go_on in_state in_order within prints = record {
      is_at_position =
          λ value stream position. settles (settled-same_state in_state tt) (inside-next value stream position);
      settled = λ _. settled-same_state in_state tt;
      outside_runs = λ no. absurd no;
    }
  where
    run : List ℕ
    run = take (j - i) (drop i call.bytes)

    -- The performer may go on after each prefix of the run that isn't empty.
    inside : (value : V) (stream : List ℕ) → ProgressAt call value old stream i (InText []) → call.may_stop ≡ true
        → (k : ℕ) → i < k → k < j
        → call.is_terminated (after call.step value (reported_before call.limit stream call.bytes k)) ≡ false
    inside value stream progress may_stop k past below =
        let from : List ℕ = resumed_stream stream call.bytes i in
        let prefix : List ℕ = take (k - i) (drop i call.bytes) in
        let rest : List ℕ = drop (k - i) run in
        let parts : run ≡ prefix ++ rest =
        sym (take-append-drop (k - i) run)
        ∙ ap (λ bytes. bytes ++ rest) (take-take (k - i) (j - i) (drop i call.bytes) (omega (arith, below))) in
        let all : added call.limit from prefix ++ added call.limit (from ++ prefix) rest
        ≡ map (run_event layout) (chars run) =
        sym (added-append call.limit from prefix rest) ∙ ap (added call.limit from) (sym parts)
        ∙ added-leads progress.is_after
        (bytes_lead-text prints.run) refl in
        not_stopped-reported layout call (never may_stop) value stream k
        (ap (λ events. call.is_terminated (after call.step value events))
        (stretch-added call.limit stream call.bytes i k past)
        ∙ ap call.is_terminated
        (after_events-append call.step value (reported_before call.limit stream call.bytes i)
        (added call.limit from prefix)
        ∙ ap (λ v. after call.step v (added call.limit from prefix)) (sym progress.performed))
        ∙ not_stopped layout call (never may_stop) old (added call.limit from prefix)
        (added call.limit (from ++ prefix) rest) (chars run) all (may_go_on may_stop))

    inside-next : (value : V) (stream : List ℕ) → IsAtPosition call value old stream i parser
        → IsInsidePosition call value new stream j parser
    inside-next value stream s =
        let here : s.place ≡ InText [] = place-settled_text in_state s.is_at in
        let progress : ProgressAt call value old stream i (InText []) =
        subst (ProgressAt call value old stream i) here s.progress in
        record {
          place = InText [];
          is_at = subst (IsAtPlace call.limit parser) here s.is_at;
          progress =
              progress-further in_order within (λ asks _. may_go_on asks) (inside value stream progress)
              (bytes_lead-text prints.run) prints.printed refl progress;
        }

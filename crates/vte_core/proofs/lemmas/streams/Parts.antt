-- Parts give the events of their stream, because it begins again at each ESC (`resynchronises`); so it does at a byte
-- that breaks a character.
use Rattle.std.proofs.lemmas.List.Sums.{passes_at_first, position_or_len_is}
use Rattle.std.specs.List.{position_or_len}
use Rattle.memchr.specs.Find.{is_byte, NoneBefore, Nowhere, Passes}
use Rattle.vte_core.proofs.Common.{added, and_parts, ap, append-nil, append_assoc, arith, Bool, breaks, cases_lt, drop, drop-append_seam, drop-drop, drop_all, drop_more, eqb-true, escape, events, false, false≢true, flat_map, get_or-drop, inl, inr, InText, IsAfter, length, length-drop, List, min, not-true, open_at, open_character, Option, outcome, outcome_from, Place, Print, refl, replacement, report, rules, slice_index, slice_range, suc, sym, take, take-append-drop, take_all, take_more, take_rest, true, zero, ℕ, [], ◌++◌, ◌+◌, ◌-◌, ◌<◌, ◌∙◌, ◌∷◌, ◌≡◌}
use Rattle.vte_core.proofs.lemmas.fields.PlaceOfState.{IsReachable}
use Rattle.vte_core.proofs.lemmas.places.BytesInStream.{bytes_lead-escape, outcome-after_nothing}
use Rattle.vte_core.proofs.lemmas.shapes.BrokenCharacters.{breaks-no_byte}
use Rattle.vte_core.proofs.lemmas.shapes.Outcomes.{report-append}
use Rattle.vte_core.proofs.lemmas.streams.After.{added-leads, after-open_character, after-to_close, events-empty, events-reported, waits-broken}
use Rattle.vte_core.proofs.lemmas.streams.StreamSteps.{events_grow, leads_to, LeadsTo, resynchronises}
use Rattle.vte_core.specs.Outcome.{closing_events}
use Rattle.vte_core.specs.Parts.{AreCuts, EndsWithEscape, GiveEvents, next_escape, parts_after, parts_at, parts_from, parts_of}

-- ---- an ESC cuts a stream

events-cut : (limit : Option ℕ) (cut : ℕ) (stream : List ℕ) → cut < length stream → slice_index stream cut ≡ escape
    → events limit stream ≡ events limit (take (cut + 1) stream) ++ events limit (drop cut stream)
events-cut limit cut stream before_end is_escape =
    let later = drop (cut + 1) stream in
    let rest : drop cut stream ≡ escape ∷ later =
    drop_more stream cut 0 before_end ∙ ap (λ b. b ∷ later) is_escape in
    let part : take (cut + 1) stream ≡ take cut stream ++ escape ∷ [] =
    take_more stream cut 0 before_end ∙ ap (λ b. take cut stream ++ b ∷ []) is_escape in
    ap (events limit) (sym (take-append-drop cut stream) ∙ ap (λ s. take cut stream ++ s) rest)
    ∙ (resynchronises limit).escape (take cut stream) later
    ∙ ap (λ s. events limit s ++ events limit (escape ∷ later)) (sym part)
    ∙ ap (λ s. events limit (take (cut + 1) stream) ++ events limit s) (sym rest)

-- ---- cuts at any ESC

parts_from-events : (limit : Option ℕ) (start : ℕ) (cuts stream : List ℕ) → AreCuts stream start cuts
    → flat_map (events limit) (parts_from start cuts stream) ≡ events limit (drop start stream)
parts_from-events limit start [] stream are_cuts = append-nil (events limit (drop start stream))
parts_from-events limit start (cut ∷ cuts) stream are_cuts =
    let before = cut - start in
    let later = drop start stream in
    let there : drop cut stream ≡ drop before later =
    ap (λ n. drop n stream) (omega (arith, are_cuts.0)) ∙ sym (drop-drop before start stream) in
    let is_escape : slice_index later before ≡ escape =
    get_or-drop start stream before 0 ∙ ap (slice_index stream) (omega (arith, are_cuts.0)) ∙ are_cuts.2 in
    ap (λ es. events limit (slice_range stream start (cut + 1)) ++ es)
    (parts_from-events limit cut cuts stream are_cuts.3 ∙ ap (events limit) there)
    ∙ ap (λ n. events limit (take n later) ++ events limit (drop before later)) (omega (arith, are_cuts.0))
    ∙ sym (events-cut limit before later (omega (arith, are_cuts.0, are_cuts.1, length-drop start stream)) is_escape)

-- The law of parts, for all cuts at an ESC.
pub parts_give_events : (limit : Option ℕ) (stream cuts : List ℕ) → AreCuts stream 0 cuts
    → GiveEvents limit (parts_at cuts stream) stream
parts_give_events limit stream cuts are_cuts = parts_from-events limit 0 cuts stream are_cuts

-- ---- the first ESC from a position on

false_if_never_true : (passes : Bool) → (passes ≡ true → ⊥) → passes ≡ false
false_if_never_true passes never = search (rules, arith)

-- The search of the code finds the ESC of the definition, or none.
pub escape_found : (from : ℕ) (stream searched : List ℕ) {start distance : ℕ} → start ≡ min from (length stream)
    → searched ≡ drop start stream → NoneBefore (Passes (is_byte escape) searched) 0 (length searched) distance
    → Passes (is_byte escape) searched distance
    → start + distance ≡ next_escape from stream
escape_found from stream searched {start} {distance} start_is searched_is none_before passes_there =
    search (rules, arith, position_or_len_is, false_if_never_true)

pub escape_missing : (from : ℕ) (stream searched : List ℕ) {start : ℕ} → start ≡ min from (length stream)
    → searched ≡ drop start stream → Nowhere (Passes (is_byte escape) searched) 0 (length searched)
    → length stream ≡ next_escape from stream
escape_missing from stream searched {start} start_is searched_is nowhere =
    omega (arith, start_is, length-drop start stream, ap length searched_is)
    ∙ ap (λ n. start + n)
    (sym (position_or_len_is (is_byte escape) searched (length searched) 0 (omega arith)
    (λ k below. false_if_never_true _ (nowhere k (omega arith) below)) (λ lt. absurd (omega arith))))
    ∙ ap (λ bytes. start + position_or_len (is_byte escape) bytes) searched_is
    ∙ ap (λ n. n + position_or_len (is_byte escape) (drop n stream)) start_is

next_escape-within : (from : ℕ) (stream : List ℕ) → next_escape from stream < length stream
    → slice_index stream (next_escape from stream) ≡ escape
next_escape-within from stream before_end = search (rules, arith, passes_at_first, length-drop, get_or-drop, eqb-true)

next_escape-later : (from : ℕ) (stream : List ℕ) → 0 < from → 0 < length stream → 0 < next_escape from stream
next_escape-later from stream some_from some_bytes = omega (arith, some_from, some_bytes)

-- ---- parts of a size

-- The parts after some bytes are those of what remains.
parts_after-drop : (size skip : ℕ) (stream : List ℕ)
    → parts_after size skip stream ≡ parts_after size 0 (drop skip stream)
parts_after-drop size zero stream = refl
parts_after-drop size (suc skip) [] = refl
parts_after-drop size (suc skip) (b ∷ stream) = parts_after-drop size skip stream

drop-less : (n b : ℕ) (stream : List ℕ) → 0 < n → drop (n - 1) stream ≡ drop n (b ∷ stream)
drop-less n b stream some_dropped = search (rules, arith)

first_part : (size : ℕ) (stream : List ℕ) → 0 < size → 0 < length stream
    → parts_after size 0 stream
    ≡ take (next_escape size stream + 1) stream ∷ parts_after size 0 (drop (next_escape size stream) stream)
first_part size stream some_size some_bytes = search (rules, arith, parts_after-drop, drop-less, next_escape-later)

take-at_least : (n : ℕ) (stream : List ℕ) → take (min (length stream) n) stream ≡ take n stream
take-at_least n stream = search (rules, arith, take_all)

-- The first part of a stream is the one that `next` takes off.
pub next_part : (size : ℕ) (stream : List ℕ) {cut end : ℕ} → 0 < size → 0 < length stream
    → cut ≡ next_escape size stream → end ≡ min (length stream) (cut + 1)
    → parts_after size 0 stream
    ≡ take end stream ∷ parts_after size 0 (take (length stream - cut) (drop cut stream))
next_part size stream {cut} {end} some_size some_bytes cut_is end_is =
    search (rules, arith, first_part, take_rest, take-at_least)

parts_after-events : (limit : Option ℕ) (size skip : ℕ) (stream : List ℕ) → 0 < size
    → flat_map (events limit) (parts_after size skip stream) ≡ events limit (drop skip stream)
parts_after-events limit size zero [] some_size = sym (events-empty limit)
parts_after-events limit size (suc skip) [] some_size = sym (events-empty limit)
parts_after-events limit size (suc skip) (b ∷ stream) some_size = parts_after-events limit size skip stream some_size
parts_after-events limit size zero (b ∷ stream) some_size =
    let all = b ∷ stream in
    let cut = next_escape size all in
    ap (λ es. events limit (take (cut + 1) all) ++ es)
    (parts_after-events limit size (cut - 1) stream some_size
    ∙ ap (events limit) (drop-less cut b stream (next_escape-later size all some_size (omega arith))))
    ∙ elim (cases_lt cut (length all)) [
      | inl before_end ↦ sym (events-cut limit cut all before_end (next_escape-within size all before_end))
      | inr past ↦
          ap (λ s. events limit s ++ events limit (drop cut all)) (take_all (cut + 1) all (omega (arith, past)))
          ∙ ap (λ s. events limit all ++ events limit s) (drop_all cut all past)
          ∙ ap (λ es. events limit all ++ es) (events-empty limit) ∙ append-nil (events limit all)
    ]

-- The same holds of the parts that the iterator chooses.
pub parts_of_events : (limit : Option ℕ) (size : ℕ) (stream : List ℕ) → GiveEvents limit (parts_of size stream) stream
parts_of_events limit size stream = parts_after-events limit _ 0 stream (omega arith)

-- ---- an ESC at the end

pub ends_with_escape : (limit : Option ℕ) (part : List ℕ) → EndsWithEscape limit part
ends_with_escape limit part =
    let leads : LeadsTo limit part = leads_to in
    events_grow limit part (escape ∷ [])
    ∙ ap (λ es. events limit part ++ es)
    (added-leads leads.is_after (bytes_lead-escape leads.is_reachable) tt
    ∙ ap closing_events (sym (after-to_close leads.is_after leads.is_reachable)))
    ∙ ap (λ events. events ++ closing_events (outcome limit part).to_close) (events-reported limit part)

-- ---- a stream goes on after a broken character as one that begins with the byte that broke it

-- The byte that broke a character is the first one to be read after it.
outcome_from-broken : (limit : Option ℕ) (place : Place) (b : ℕ) (unread more : List ℕ) → IsReachable place
    → breaks (open_at place) (b ∷ unread) ≡ true
    → outcome_from limit place (b ∷ more)
    ≡ report (Print replacement ∷ []) (outcome_from limit (InText []) (b ∷ more))
outcome_from-broken limit place b unread more is_reachable broken =
    search (rules, arith, and_parts, waits-broken, not-true)

-- After a broken character, the stream goes on as one that begins with what is unread.
outcome-broken : (limit : Option ℕ) (stream unread more : List ℕ) → breaks (open_character stream) unread ≡ true
    → outcome limit (stream ++ (unread ++ more))
    ≡ report (events limit stream ++ Print replacement ∷ []) (outcome limit (unread ++ more))
outcome-broken limit stream [] more broken = absurd (false≢true (sym (breaks-no_byte (open_character stream)) ∙ broken))
outcome-broken limit stream (b ∷ unread) more broken =
    let leads = leads_to in
    let here : breaks (open_at leads.place) (b ∷ unread) ≡ true =
    ap (λ (u : List ℕ). breaks u (b ∷ unread))
    (sym (after-open_character leads.is_after leads.is_reachable)) ∙ broken in
    leads.is_after.same_outcomes (b ∷ (unread ++ more))
    ∙ ap (report (events limit stream))
    (outcome_from-broken limit leads.place b unread (unread ++ more) leads.is_reachable here)
    ∙ sym
    (report-append (events limit stream) (Print replacement ∷ [])
    (outcome_from limit (InText []) (b ∷ (unread ++ more))))
    ∙ ap (report (events limit stream ++ Print replacement ∷ []))
    (sym (outcome-after_nothing limit (b ∷ (unread ++ more))))

events-broken : (limit : Option ℕ) (stream unread more : List ℕ) → breaks (open_character stream) unread ≡ true
    → events limit (stream ++ (unread ++ more))
    ≡ (events limit stream ++ Print replacement ∷ []) ++ events limit (unread ++ more)
events-broken limit stream unread more broken = search (rules, arith, events-reported, outcome-broken)

-- Bytes that break a character add U+FFFD, and then what they add to an empty stream.
pub added-broken : (limit : Option ℕ) (stream unread more : List ℕ) → breaks (open_character stream) unread ≡ true
    → added limit stream (unread ++ more) ≡ Print replacement ∷ added limit [] (unread ++ more)
added-broken limit stream unread more broken =
    search (rules, arith, events-broken, append_assoc, drop-append_seam, events-empty)

-- The place after them alone is then the place after the whole stream.
pub resumes-after : (limit : Option ℕ) (stream unread : List ℕ) (place : Place)
    → breaks (open_character stream) unread ≡ true
    → IsAfter limit unread place
    → IsAfter limit (stream ++ unread) place
resumes-after limit stream unread place broken is_after = record {
  same_outcomes = λ more.
      let reported = events limit stream ++ Print replacement ∷ [] in
      let all : events limit (stream ++ unread) ≡ reported ++ events limit unread =
      rw append-nil at (events-broken limit stream unread [] broken) in
      ap (outcome limit) (append_assoc stream unread more)
      ∙ outcome-broken limit stream unread more broken
      ∙ ap (report reported) (is_after.same_outcomes more)
      ∙ sym (report-append reported (events limit unread) (outcome_from limit place more))
      ∙ ap (λ events. report events (outcome_from limit place more)) (sym all);
}

-- Early stops. What is reported before a position, and what goes on from there, is what the whole gives
-- (`goes_on_from`); from one position to the next at most one unit is reported. By what a byte does to an open
-- character.
use Rattle.vte_core.proofs.Common.{add-one, added, ap, append-nil, append_assoc, AreBrief, arith, Bool, breaks, breaks_at, cases_Bool, drop, drop-append_seam, Event, false, false≢true, get_or, if◌then◌else◌, inl, inr, IsAfter, IsAtMostOneCharacter, IsStart, length, List, None, open_at, open_character, Option, Place, Print, refl, replacement, reported_before, resumed_stream, rules, subst, suc, sym, take, take-append-drop, take_more, true, zero, ℕ, [], ◌++◌, ◌+◌, ◌<◌, ◌∙◌, ◌∷◌, ◌≡◌, ◌≤◌, ◌⊎◌}
use Rattle.vte_core.proofs.lemmas.places.PlaceLeads.{one_character-append}
use Rattle.vte_core.proofs.lemmas.places.Steps.{text_at}
use Rattle.vte_core.proofs.lemmas.shapes.BrokenCharacters.{breaks_at-byte, breaks_at-settled, starts-broken, starts-settled}
use Rattle.vte_core.proofs.lemmas.streams.After.{added-nothing, after-open_character}
use Rattle.vte_core.proofs.lemmas.streams.Parts.{added-broken, resumes-after}
use Rattle.vte_core.proofs.lemmas.streams.StreamSteps.{added-byte, bytes_are_brief, events_grow, leads_to, LeadsTo, opens_silently}
use Rattle.vte_core.specs.EarlyStopLaws.{AreReportedAtStart, GoesOnFromPositions, ReportsUnit, ReportsUnits}

-- ---- what is kept from start to start holds wherever a call stops

-- The proof is by induction over positions, a unit at a time.

-- Kept is to hold of what is reported before each position. It holds of no events, and a unit keeps it.
-- Before each unit Asked holds, which is what the performer answers when it is asked: at first, and at
-- each start.
module _ {limit : Option ℕ} (Kept Asked : List Event → Type 0) (stream bytes : List ℕ) (units : ReportsUnits limit)
    (at_first : Kept []) (asked_first : Asked [])
    (kept : (before unit : List Event) → Kept before → Asked before → AreBrief limit unit → Kept (before ++ unit)) where
  -- By induction on m, Kept holds before each position below m, if Asked holds before each earlier start.
  passed-below : (m i : ℕ) → i < m → i ≤ length bytes
      → ((j : ℕ) → j < i → IsStart stream bytes j → Asked (reported_before limit stream bytes j))
      → Kept (reported_before limit stream bytes i)
  passed-below zero i below within asked = absurd (omega arith)
  passed-below (suc m) i below within asked =
      let reports : ReportsUnit limit stream bytes i = units stream bytes i within in
      subst Kept (sym reports.parts) (elim reports.at_start [
        | inl nothing_before ↦
            kept reports.before reports.unit (subst Kept (sym nothing_before) at_first)
            (subst Asked (sym nothing_before) asked_first) reports.brief
        | inr t ↦
            let earlier : t.start < i = t.earlier in
            let before = passed-below m t.start (omega arith) (omega arith) (λ j first. asked j (omega arith)) in
            kept reports.before reports.unit (subst Kept (sym t.events_are) before)
            (subst Asked (sym t.events_are) (asked t.start earlier t.starts)) reports.brief
      ])

  pub passed-at : (i : ℕ) → i ≤ length bytes → ((j : ℕ) → j < i → IsStart stream bytes j
      → Asked (reported_before limit stream bytes j))
      → Kept (reported_before limit stream bytes i)
  passed-at i within asked = passed-below (i + 1) i (omega arith) within asked

-- ---- a byte that belongs to an open character

-- The byte reports at most a short event, and nothing if it leaves the character open.
abbrev ReportsAtMostOneShort : Option ℕ → List ℕ → ℕ → Type 0
ReportsAtMostOneShort limit stream b =
    IsAtMostOneCharacter (added limit stream (b ∷ []))
    × ((open_character (stream ++ b ∷ []) ≡ []) ⊎ (added limit stream (b ∷ []) ≡ []))

reports_little : (limit : Option ℕ) (stream : List ℕ) (b : ℕ) → (open_character stream ≡ [] → ⊥)
    → breaks (open_character stream) (b ∷ []) ≡ false → ReportsAtMostOneShort limit stream b
reports_little limit stream b some_open unbroken =
    let adds = added-byte limit stream b in
    let breaks_none : breaks (open_at adds.place) (b ∷ []) ≡ false =
    ap (λ u. breaks u (b ∷ [])) (sym adds.begins) ∙ unbroken in
    elim
    (adds.step.silent_or_settles (text_at adds.place (λ none_open. some_open (adds.begins ∙ none_open))) breaks_none) [
      | inl nothing ↦ (rw (adds.reported ∙ nothing) tt, inr (adds.reported ∙ nothing))
      | inr last ↦ (rw adds.reported last.1, inl (adds.ends ∙ last.0))
    ]

-- ---- what is reported from one position to the next

-- From the last start to a position, at most one unit is reported (`reports_units`), by induction over the bytes; what
-- the bytes add is split at that start (`Added`).

pub added-append : (limit : Option ℕ) (stream prefix rest : List ℕ)
    → added limit stream (prefix ++ rest) ≡ added limit stream prefix ++ added limit (stream ++ prefix) rest
added-append limit stream prefix rest = search (rules, arith, events_grow, append_assoc, drop-append_seam)

one_character-replacement : IsAtMostOneCharacter (Print replacement ∷ [])
one_character-replacement = (refl, refl)

-- The bytes after a prefix add what they add to its stream or, after a character that they break, to the empty one.
pub added_from : (limit : Option ℕ) (stream prefix rest : List ℕ) (broken : Bool)
    → (broken ≡ true → breaks (open_character (stream ++ prefix)) rest ≡ true)
    → added limit stream (prefix ++ rest)
    ≡ (added limit stream prefix ++ (if broken then Print replacement ∷ [] else []))
    ++ added limit (if broken then [] else stream ++ prefix) rest
added_from limit stream prefix rest true rest_breaks =
    added-append limit stream prefix rest
    ∙ ap (λ (events : List Event). added limit stream prefix ++ events)
    (rw append-nil at (added-broken limit (stream ++ prefix) rest [] (rest_breaks refl)))
    ∙ sym (append_assoc (added limit stream prefix) (Print replacement ∷ []) (added limit [] rest))
added_from limit stream prefix rest false rest_breaks = rw append-nil (added-append limit stream prefix rest)

pub after_from : {limit : Option ℕ} (stream rest : List ℕ) {place : Place} (broken : Bool)
    → (broken ≡ true → breaks (open_character stream) rest ≡ true)
    → IsAfter limit ((if broken then [] else stream) ++ rest) place → IsAfter limit (stream ++ rest) place
after_from {limit} stream rest {place} true rest_breaks is_after =
    resumes-after limit stream rest place (rest_breaks refl) is_after
after_from stream rest false rest_breaks is_after = is_after

ends_from : (stream rest : List ℕ) (broken : Bool) → (broken ≡ true → breaks (open_character stream) rest ≡ true)
    → open_character (stream ++ rest) ≡ open_character ((if broken then [] else stream) ++ rest)
ends_from stream rest broken rest_breaks =
    let leads : LeadsTo None ((if broken then [] else stream) ++ rest) = leads_to in
    after-open_character
    (after_from stream rest broken rest_breaks leads.is_after) leads.is_reachable
    ∙ sym (after-open_character leads.is_after leads.is_reachable)

-- What the bytes before a position add, divided at the last start before it.
record Added (limit : Option ℕ) (stream bytes : List ℕ) (i : ℕ) : Type 0 where
  before : List Event
  unit : List Event
  parts : added limit stream (take i bytes) ≡ before ++ unit
  brief : AreBrief limit unit
  one_character : (open_character (stream ++ take i bytes) ≡ [] → ⊥) → IsAtMostOneCharacter unit
  at_start : (before ≡ []) ⊎ AreReportedAtStart limit stream bytes i before

one_short-opens : (limit : Option ℕ) (stream : List ℕ) (b : ℕ) → (open_character (stream ++ b ∷ []) ≡ [] → ⊥)
    → IsAtMostOneCharacter (added limit stream (b ∷ []))
one_short-opens limit stream b some_open = search (rules, arith, opens_silently, one_character-replacement)

is_empty_or_not : (bytes : List ℕ) → (bytes ≡ []) ⊎ (bytes ≡ [] → ⊥)
is_empty_or_not [] = inl refl
is_empty_or_not (b ∷ bytes) = inr (λ same. cc)

-- From position i, one byte leads to the next position.
module _ (limit : Option ℕ) (stream bytes : List ℕ) (i : ℕ) (before_end : i < length bytes) where
  -- The stream to position i.
  abbrev here : List ℕ
  here = stream ++ take i bytes

  -- The byte there.
  abbrev b : ℕ
  b = get_or bytes i 0

  take-next : take (i + 1) bytes ≡ take i bytes ++ b ∷ []
  take-next = take_more bytes i 0 before_end

  open_character-next : open_character (stream ++ take (i + 1) bytes) ≡ open_character (here ++ b ∷ [])
  open_character-next =
      ap (λ (v : List ℕ). open_character (stream ++ v)) take-next
      ∙ ap open_character (sym (append_assoc stream (take i bytes) (b ∷ [])))

  breaks_at-next : breaks_at stream bytes i ≡ breaks (open_character here) (b ∷ [])
  breaks_at-next = breaks_at-byte stream bytes i before_end refl refl

  -- If the position is a start, the unit is what the byte adds.
  added-from_start : IsStart stream bytes i → Added limit stream bytes (i + 1)
  unfolding reported_before resumed_stream
  added-from_start starts =
      let from : List ℕ = resumed_stream stream bytes i in
      let next_breaks : breaks_at stream bytes i ≡ true
      → breaks (open_character here) (b ∷ []) ≡ true = λ same. sym breaks_at-next ∙ same in
      record {
        before = reported_before limit stream bytes i;
        unit = added limit from (b ∷ []);
        parts =
            ap (added limit stream) take-next
            ∙ added_from limit stream (take i bytes) (b ∷ []) (breaks_at stream bytes i) next_breaks;
        brief = bytes_are_brief limit from b;
        one_character =
            λ some_open.
            one_short-opens limit from b
            (λ same.
            some_open (open_character-next ∙ ends_from here (b ∷ []) (breaks_at stream bytes i) next_breaks ∙ same));
        at_start = inr (record { start = i; earlier = omega arith; starts = starts; events_are = refl });
      }

  -- If the byte belongs to an open character, the unit goes on.
  added-extended : Added limit stream bytes i → (open_character here ≡ [] → ⊥)
      → breaks (open_character here) (b ∷ []) ≡ false
      → Added limit stream bytes (i + 1)
  added-extended adds some_open unbroken =
      let little = reports_little limit here b some_open unbroken in
      let last : List Event = added limit here (b ∷ []) in
      record {
        before = adds.before;
        unit = adds.unit ++ last;
        parts =
            ap (added limit stream) take-next ∙ added-append limit stream (take i bytes) (b ∷ [])
            ∙ ap (λ (events : List Event). events ++ last) adds.parts ∙ append_assoc adds.before adds.unit last;
        brief = one_character-append limit adds.unit last (adds.one_character some_open) little.0;
        one_character =
            λ open_there. elim little.1 [
              | inl settled ↦ absurd (open_there (open_character-next ∙ settled))
              | inr nothing ↦ rw (nothing, append-nil) (adds.one_character some_open)
            ];
        at_start = elim adds.at_start [
          | inl settled ↦ inl settled
          | inr t ↦
              inr (record {
                start = t.start;
                earlier = (let before_here : t.start < i = t.earlier in omega arith);
                starts = t.starts;
                events_are = t.events_are;
              })
        ];
      }

  added_further : Added limit stream bytes i → Added limit stream bytes (i + 1)
  added_further adds = elim (is_empty_or_not (open_character here)) [
    | inl none_open ↦ added-from_start (starts-settled before_end none_open)
    | inr some_open ↦ elim (cases_Bool (breaks (open_character here) (b ∷ []))) [
      | inl broken ↦ added-from_start (starts-broken before_end (breaks_at-next ∙ broken))
      | inr unbroken ↦ added-extended adds some_open unbroken
    ]
  ]

added_to : (limit : Option ℕ) (stream bytes : List ℕ) (i : ℕ) → i ≤ length bytes → Added limit stream bytes i
added_to limit stream bytes zero within = record {
  before = [];
  unit = [];
  parts = added-nothing limit stream;
  brief = tt;
  one_character = λ _. tt;
  at_start = inl refl;
}
added_to limit stream bytes (suc i) within =
    let adds : Added limit stream bytes (i + 1) =
    added_further limit stream bytes i (omega arith) (added_to limit stream bytes i (omega arith)) in
    rw add-one at adds

pub reports_units : (limit : Option ℕ) → ReportsUnits limit
unfolding reported_before
reports_units limit stream bytes i within = record {
  before = adds.before;
  unit = adds.unit ++ (if breaks_at stream bytes i then Print replacement ∷ [] else []);
  parts =
      ap (λ (events : List Event). events ++ (if breaks_at stream bytes i then Print replacement ∷ [] else []))
      adds.parts
      ∙ append_assoc adds.before adds.unit _;
  brief = by_break (breaks_at stream bytes i) refl;
  at_start = adds.at_start;
}
  where
    adds : Added limit stream bytes i
    adds = added_to limit stream bytes i within

    by_break : (broken : Bool) → breaks_at stream bytes i ≡ broken
        → AreBrief limit (adds.unit ++ (if broken then Print replacement ∷ [] else []))
    by_break true is_broken =
        one_character-append limit adds.unit (Print replacement ∷ [])
        (adds.one_character (λ none_open. false≢true (sym (breaks_at-settled stream bytes i none_open) ∙ is_broken)))
        one_character-replacement
    by_break false is_broken = rw append-nil adds.brief

-- ---- what is reported before a position, and then what follows adds, is what all bytes add

pub breaks_there : (stream bytes : List ℕ) (n : ℕ) → breaks_at stream bytes n ≡ true
    → breaks (open_character (stream ++ take n bytes)) (drop n bytes) ≡ true
unfolding breaks_at
breaks_there stream bytes n broken = broken

-- A character that unread bytes break is broken whatever follows them.
breaks-more : (opened unread more : List ℕ) → breaks opened unread ≡ true → breaks opened (unread ++ more) ≡ true
breaks-more opened unread more broken = search (rules, arith)

pub goes_on_from : (limit : Option ℕ) → GoesOnFromPositions limit
unfolding reported_before resumed_stream
goes_on_from limit stream bytes more n =
    ap (λ (v : List ℕ). added limit stream (v ++ more)) (sym (take-append-drop n bytes))
    ∙ ap (added limit stream) (append_assoc (take n bytes) (drop n bytes) more)
    ∙ added_from limit stream (take n bytes) (drop n bytes ++ more) (breaks_at stream bytes n)
    (λ same. breaks-more _ (drop n bytes) more (breaks_there stream bytes n same))

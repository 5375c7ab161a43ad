-- What the automaton's state says of the text that it has read: characters that are printed, and then the bytes of one
-- that has begun. Each step of the automaton keeps that. The ten states have three phases (`Phase`): between two
-- characters, failed, or inside a character, whose next byte has one range.
use Rattle.std.proofs.lemmas.List.{get_or-append-add, get_or-take}
use Rattle.std.proofs.lemmas.Str.{encode_ascii, encodes-chars}
use Rattle.vte_core.proofs.Common.{add-one, All, All-cons, All-head, All-nil, All-tail, and_parts, ap, append-nil, append_assoc, arith, Bool, cases_Bool, cases_eq, cases_lt, cond, drop, encode, encodes, false, false≢true, from_to, get_or, get_or-drop, inl, inr, is_in, is_layout, IsPrintedAscii, IsUtf8Run, length, length-append, length-drop, length-take, List, nat_tests, Range, refl, rows_after_byte, rules, second_range, slice_index, StaysInRun, subst, suc, sym, take, take-add, take_more, true, utf8_rows, zero, ℕ, [], ◌&&◌, ◌++◌, ◌+◌, ◌-◌, ◌<◌, ◌∙◌, ◌∷◌, ◌≡◌, ◌≢◌, ◌≤◌}
use Rattle.vte_core.proofs.lemmas.bytes.Each.{each-one}
use Rattle.vte_core.proofs.lemmas.bytes.Runs.{run-ascii, run-layout, utf8_run-append, utf8_run-nil}
use Rattle.vte_core.proofs.lemmas.bytes.Scalars.{in_range-bounds}
use Rattle.vte_core.proofs.lemmas.bytes.Utf8.{continuation, fits, tests-row, tests-two}
use Rattle.vte_core.proofs.lemmas.dividing.Utf8Agrees.{utf8_run-character}
use Rattle.vte_core.specs.private.Automaton.{AfterC2, AfterE0, AfterED, AfterF0, AfterF4, AutomatonState, BetweenCharacters, Failed, NeedsOne, NeedsThree, NeedsTwo, next_between_characters, next_if_in, next_state, state_after}
use Rattle.vte_core.specs.private.Runs.{Each}

-- ---- one byte after another

-- A state is the list of ranges that the open character still wants (`wanted_ranges`), and a byte in the first of them
-- takes it off.

-- The ranges of the bytes that end the character.
abbrev wanted_ranges : AutomatonState → List Range
wanted_ranges BetweenCharacters = []
wanted_ranges NeedsOne = continuation ∷ []
wanted_ranges NeedsTwo = continuation ∷ continuation ∷ []
wanted_ranges NeedsThree = continuation ∷ continuation ∷ continuation ∷ []
wanted_ranges AfterE0 = from_to 0xa0 0xbf ∷ continuation ∷ []
wanted_ranges AfterED = from_to 0x80 0x9f ∷ continuation ∷ []
wanted_ranges AfterF0 = from_to 0x90 0xbf ∷ continuation ∷ continuation ∷ []
wanted_ranges AfterF4 = from_to 0x80 0x8f ∷ continuation ∷ continuation ∷ []
wanted_ranges AfterC2 = from_to 0xa0 0xbf ∷ []
wanted_ranges Failed = []

pub state_after-append : (state : AutomatonState) (xs ys : List ℕ)
    → state_after state (xs ++ ys) ≡ state_after (state_after state xs) ys
state_after-append state [] ys = refl
state_after-append state (b ∷ xs) ys = state_after-append (next_state state b) xs ys

pub next_state-failed : (b : ℕ) → next_state Failed b ≡ Failed
unfolding next_state
next_state-failed b = refl

-- ---- a state is between characters, has failed, or wants a byte in one range

-- Which of these a state is.
pub data Phase (state : AutomatonState) : Type 0 where
  phase-between : state ≡ BetweenCharacters → Phase state
  phase-failed : state ≡ Failed → Phase state
  phase-waiting : (next : AutomatonState) (range : Range) → state ≢ BetweenCharacters → range.last ≤ 0xbf
      → wanted_ranges state ≡ range ∷ wanted_ranges next
      → ((b : ℕ) → next_state state b ≡ next_if_in range next b) → Phase state

pub phase : (state : AutomatonState) → Phase state
unfolding next_state
phase BetweenCharacters = phase-between refl
phase NeedsOne = phase-waiting BetweenCharacters continuation (λ between. cc) (omega arith) refl (λ b. refl)
phase NeedsTwo = phase-waiting NeedsOne continuation (λ between. cc) (omega arith) refl (λ b. refl)
phase NeedsThree = phase-waiting NeedsTwo continuation (λ between. cc) (omega arith) refl (λ b. refl)
phase AfterE0 = phase-waiting NeedsOne (from_to 0xa0 0xbf) (λ between. cc) (omega arith) refl (λ b. refl)
phase AfterED = phase-waiting NeedsOne (from_to 0x80 0x9f) (λ between. cc) (omega arith) refl (λ b. refl)
phase AfterF0 = phase-waiting NeedsTwo (from_to 0x90 0xbf) (λ between. cc) (omega arith) refl (λ b. refl)
phase AfterF4 = phase-waiting NeedsTwo (from_to 0x80 0x8f) (λ between. cc) (omega arith) refl (λ b. refl)
phase AfterC2 = phase-waiting BetweenCharacters (from_to 0xa0 0xbf) (λ between. cc) (omega arith) refl (λ b. refl)
phase Failed = phase-failed refl

-- ---- what a first byte begins

-- Nothing, or a character with these ranges to come, as the rows of UTF-8 say.

-- Bytes in these ranges end the character.
abbrev EndsCharacter : ℕ → List Range → Type 0
EndsCharacter b ranges = (u : List ℕ) → fits ranges u ≡ true → IsUtf8Run true (b ∷ u)

-- After a byte from C3 on, the ranges that Unicode's table has left say which bytes end a character.
ends_character-row : (b : ℕ) {ranges : List Range} → 0xc3 ≤ b → rows_after_byte b utf8_rows ≡ ranges ∷ []
    → EndsCharacter b ranges
ends_character-row b {ranges} low same u fit =
    utf8_run-character (omega (arith, low)) (λ is_c2. absurd (omega (arith, is_c2, low)))
    ((tests-row b ranges same u).is_whole ∙ fit)

-- ---- a first byte is printed, fails, or opens a character

-- Which of these a first byte does.
pub data Begins (b : ℕ) : Type 0 where
  prints : IsUtf8Run true (b ∷ []) → next_between_characters b ≡ BetweenCharacters → Begins b
  fails : next_between_characters b ≡ Failed → Begins b
  opens : (next : AutomatonState) → next_between_characters b ≡ next → next ≢ BetweenCharacters
      → EndsCharacter b (wanted_ranges next) → Begins b

-- A byte C3..F4 opens a character, which wants the ranges of its row.
lead-opens : (b : ℕ) → 0xc3 ≤ b → b < 0xf5 → next_between_characters b ≢ BetweenCharacters
lead-opens b low high between = grind (arith, nat_tests, between)

lead-rows : (b : ℕ) → 0xc3 ≤ b → b < 0xf5 → rows_after_byte b utf8_rows ≡ wanted_ranges (next_between_characters b) ∷ []
unfolding utf8_rows
lead-rows b low high = grind (arith, nat_tests)

-- After C2, only A0..BF end a character, though the table also has controls.
ends_character-after_c2 : EndsCharacter 0xc2 (from_to 0xa0 0xbf ∷ [])
unfolding second_range
ends_character-after_c2 [] fit = absurd (false≢true fit)
ends_character-after_c2 (c ∷ u) fit =
    let parts = and_parts (is_in (from_to 0xa0 0xbf) c) (fits [] u) fit in
    utf8_run-character (omega arith) (λ _. (in_range-bounds (from_to 0xa0 0xbf) c parts.0).0)
    ((tests-two 0xc2 (omega arith) (omega arith) (c ∷ u)).is_whole ∙ rw parts.1 (grind (arith, nat_tests)))

pub begins : (b : ℕ) → Begins b
unfolding utf8_rows
begins b =
    elim (cases_lt b 0x80) [
      | inl ascii ↦ elim (cases_lt b 0x20) [
        | inl control ↦ elim (cases_Bool (is_layout b)) [
          | inl layout ↦ prints (run-layout (b ∷ []) 0 b (omega arith) refl layout) (rw layout refl)
          | inr other ↦ fails (grind (arith, nat_tests))
        ]
        | inr printed ↦
            prints (run-ascii true (b ∷ []) 0 1 (each-one IsPrintedAscii (b ∷ []) 0 (printed, omega (arith, ascii))))
            (grind (arith, nat_tests))
      ]
      | inr from_80 ↦ elim (cases_lt b 0xc2) [
        | inl lone ↦ fails (grind (arith, nat_tests))
        | inr from_c2 ↦ elim (cases_eq b 0xc2) [
          | inl c2 ↦ subst Begins (sym c2) (opens AfterC2 refl (λ between. cc) ends_character-after_c2)
          | inr past_c2 ↦ elim (cases_lt b 0xf5) [
            | inl lead ↦
                let low : 0xc3 ≤ b = omega (arith, from_c2, past_c2) in
                opens (next_between_characters b) refl (lead-opens b low lead) (ends_character-row b low
                (lead-rows b low lead))
            | inr past_leads ↦ fails (grind (arith, nat_tests))
          ]
        ]
      ]
    ]

-- ---- what has been read

-- The bytes up to `end` are characters; those from there up to the position belong to one that has begun.
pub record ReadSoFar (text : List ℕ) (i : ℕ) (state : AutomatonState) : Type 0 where
  pub end : ℕ
  pub before : end ≤ i
  pub utf8_run : IsUtf8Run true (take end text)
  pub completes : (u : List ℕ) → fits (wanted_ranges state) u ≡ true
      → IsUtf8Run true (take (i - end) (drop end text) ++ u)
  pub settled : state ≡ BetweenCharacters → end ≡ i

none-taken : (text : List ℕ) (i end : ℕ) → end ≡ i → take (i - end) (drop end text) ≡ []
none-taken text i end same = search (rules, arith)

-- Between two characters, all of the text so far is printed.
so_far-printed : {text : List ℕ} {i : ℕ} → IsUtf8Run true (take i text) → ReadSoFar text i BetweenCharacters
so_far-printed {text} {i} printed = record {
  end = i;
  before = omega arith;
  utf8_run = printed;
  completes =
      λ u fit.
      rw (none-taken text i i refl)
      (elim u as (λ v. fits [] v ≡ true → IsUtf8Run true v) [
        | [] ↦ λ _. utf8_run-nil true
        | c ∷ v ↦ λ f. absurd (false≢true f)
      ] fit);
  settled = λ _. refl;
}

module _ (text : List ℕ) (i : ℕ) (before_end : i < length text) (state : AutomatonState)
    (old : ReadSoFar text i state) where
  -- The byte at position i.
  abbrev b : ℕ
  b = slice_index text i

  -- The bytes before it that belong to no whole character.
  abbrev taken : List ℕ
  taken = take (i - old.end) (drop old.end text)

  taken-more : take (i + 1 - old.end) (drop old.end text) ≡ taken ++ b ∷ []
  taken-more =
      let size : i + 1 - old.end ≡ i - old.end + 1 = omega (arith, old.before) in
      let place : old.end + (i - old.end) ≡ i = omega (arith, old.before) in
      ap (λ n. take n (drop old.end text)) size
      ∙ take_more (drop old.end text) (i - old.end) 0 (omega (arith, length-drop old.end text, old.before, before_end))
      ∙ ap (λ byte. taken ++ byte ∷ []) (get_or-drop old.end text (i - old.end) 0 ∙ ap (slice_index text) place)

  -- A character ends.
  so_far-settles : IsUtf8Run true (taken ++ b ∷ []) → ReadSoFar text (i + 1) BetweenCharacters
  so_far-settles whole =
      let place : i + 1 ≡ old.end + (i + 1 - old.end) = omega (arith, old.before) in
      let joined : take (i + 1) text ≡ take old.end text ++ (taken ++ b ∷ []) =
      ap (λ n. take n text) place ∙ take-add old.end (i + 1 - old.end) text
      ∙ ap (λ bytes. take old.end text ++ bytes) taken-more in
      so_far-printed
      (subst (IsUtf8Run true) (sym joined)
      (utf8_run-append old.utf8_run whole))

  -- A character begins or goes on.
  so_far-goes_on : (next : AutomatonState) → next ≢ BetweenCharacters
      → ((u : List ℕ) → fits (wanted_ranges next) u ≡ true → IsUtf8Run true ((taken ++ b ∷ []) ++ u))
      → ReadSoFar text (i + 1) next
  so_far-goes_on next inside completes = record {
    end = old.end;
    before = omega (arith, old.before);
    utf8_run = old.utf8_run;
    completes = λ u fit. subst (λ bytes. IsUtf8Run true (bytes ++ u)) (sym taken-more) (completes u fit);
    settled = λ same. absurd (inside same);
  }

  -- The first byte of a character continues what was read so far.
  so_far-first : state ≡ BetweenCharacters → next_state state b ≢ Failed → ReadSoFar text (i + 1) (next_state state b)
  unfolding next_state
  so_far-first same going =
      let step : next_state state b ≡ next_between_characters b = ap (λ v. next_state v b) same in
      let here : old.end ≡ i = old.settled same in
      let nothing : taken ≡ [] = none-taken text i old.end here in
      elim (begins b) [
        | prints printed next_is ↦
            subst (ReadSoFar text (i + 1)) (sym (step ∙ next_is))
            (so_far-settles (subst (λ bytes. IsUtf8Run true (bytes ++ b ∷ [])) (sym nothing) printed))
        | fails next_is ↦ absurd (going (step ∙ next_is))
        | opens next next_is inside completes ↦ subst (ReadSoFar text (i + 1)) (sym (step ∙ next_is))
            (so_far-goes_on next inside
            (λ u fit. subst (λ bytes. IsUtf8Run true ((bytes ++ b ∷ []) ++ u)) (sym nothing) (completes u fit)))
      ]

  -- A further byte of a character continues what was read so far.
  so_far-later : (next : AutomatonState) (range : Range) → state ≢ BetweenCharacters → range.last ≤ 0xbf
      → wanted_ranges state ≡ range ∷ wanted_ranges next
      → next_state state b ≡ next_if_in range next b → next_state state b ≢ Failed
      → ReadSoFar text (i + 1) (next_state state b)
  so_far-later next range inside last ranges_are steps going = elim (cases_Bool (is_in range b)) [
    | inr misfits ↦ absurd (going (steps ∙ ap (λ v. cond v next Failed) misfits))
    | inl fit ↦
        let step : next_state state b ≡ next = steps ∙ ap (λ v. cond v next Failed) fit in
        let completes : (u : List ℕ) → fits (wanted_ranges next) u ≡ true → IsUtf8Run true ((taken ++ b ∷ []) ++ u) =
        λ u more. subst (IsUtf8Run true) (sym (append_assoc taken (b ∷ []) u)) (old.completes (b ∷ u)
        (ap (λ ranges. fits ranges (b ∷ u)) ranges_are ∙ ap (λ v. v && fits (wanted_ranges next) u) fit ∙ more)) in
        subst (ReadSoFar text (i + 1)) (sym step) (elim (phase next) [
          | phase-between same ↦
              let whole : IsUtf8Run true (taken ++ b ∷ []) =
              subst (IsUtf8Run true) (append-nil (taken
              ++ b ∷ [])) (completes [] (ap (λ v. fits (wanted_ranges v) []) same)) in
              subst (ReadSoFar text (i + 1)) (sym same) (so_far-settles whole)
          | phase-failed same ↦ absurd (going (step ∙ same))
          | phase-waiting v r other _ _ _ ↦
              so_far-goes_on next other completes
        ])
  ]

  so_far-next : next_state state b ≢ Failed → ReadSoFar text (i + 1) (next_state state b)
  unfolding next_state
  so_far-next going = elim (phase state) [
    | phase-between same ↦ so_far-first same going
    | phase-failed same ↦ absurd (going (ap (λ v. next_state v b) same))
    | phase-waiting next range inside last ranges_are steps ↦
        so_far-later next range inside last ranges_are (steps b) going
  ]

pub state_after-next : (text : List ℕ) (i : ℕ) → i < length text
    → state_after BetweenCharacters (take (i + 1) text)
    ≡ next_state (state_after BetweenCharacters (take i text)) (slice_index text i)
state_after-next text i before_end =
    ap (state_after BetweenCharacters) (take_more text i 0 before_end)
    ∙ state_after-append BetweenCharacters (take i text) (slice_index text i ∷ [])

so_far-further : (text : List ℕ) (i : ℕ) (before_end : i < length text)
    → ReadSoFar text i (state_after BetweenCharacters (take i text))
    → state_after BetweenCharacters (take (i + 1) text) ≢ Failed
    → ReadSoFar text (i + 1) (state_after BetweenCharacters (take (i + 1) text))
so_far-further text i before_end old going =
    subst (ReadSoFar text (i + 1)) (sym (state_after-next text i before_end))
    (so_far-next text i before_end _ old (λ failed. going (state_after-next text i before_end ∙ failed)))

pub so_far-all : (text : List ℕ) (i : ℕ) → i ≤ length text → state_after BetweenCharacters (take i text) ≢ Failed
    → ReadSoFar text i (state_after BetweenCharacters (take i text))
so_far-all text zero within going = so_far-printed (utf8_run-nil true)
so_far-all text (suc i) within going =
    let fine : state_after BetweenCharacters (take (i + 1) text) ≢ Failed = rw add-one going in
    let old =
    so_far-all text i (omega arith)
    (λ failed.
    fine (state_after-next text i (omega arith) ∙ ap (λ state. next_state state (slice_index text i)) failed
    ∙ next_state-failed (slice_index text i))) in
    rw add-one at (so_far-further text i (omega arith) old fine)

-- ---- a text without HT, LF and CR

-- The automaton lets these pass; a run without bytes below 20 has none.

-- All bytes are from 20 on.
abbrev AreAbove : List ℕ → Type 0
AreAbove bytes = (k : ℕ) → k < length bytes → 0x20 ≤ get_or bytes k 0

stays-above : (c : ℕ) → 0x20 ≤ c → StaysInRun true c → StaysInRun false c
stays-above c low stays = grind (arith, nat_tests)

-- A character whose bytes are all from 20 on is itself from 20 on.
first-above : (c : ℕ) (rest : List ℕ) → AreAbove (encode c ++ rest) → 0x20 ≤ c
first-above c rest above = search (rules, arith, encode_ascii)

stays-all_above : (cs : List ℕ) → AreAbove (encodes cs) → All (StaysInRun true) cs → All (StaysInRun false) cs
stays-all_above [] above all = All-nil (StaysInRun false)
stays-all_above (c ∷ cs) above all =
    let rest : AreAbove (encodes cs) = λ k l.
    subst (λ b. 0x20 ≤ b) (get_or-append-add (encode c) (encodes cs) k 0)
    (above (length (encode c) + k) (omega (arith, l, length-append (encode c) (encodes cs)))) in
    All-cons (StaysInRun false) c cs
    (stays-above c (first-above c (encodes cs) above) (All-head (StaysInRun true) c cs all))
    (stays-all_above cs rest (All-tail (StaysInRun true) c cs all))

-- A run without bytes below 20 is also one if layout isn't kept.
pub run-kept : (layout : Bool) (text : List ℕ) (i end : ℕ) → (layout ≡ false → Each (λ b. 0x20 ≤ b) text 0 i)
    → end ≤ i
    → IsUtf8Run true (take end text) → IsUtf8Run layout (take end text)
run-kept layout text i end low in_order run =
    search (rules, arith, length-take, get_or-take, stays-all_above, encodes-chars)

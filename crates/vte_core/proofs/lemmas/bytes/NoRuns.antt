-- Where a run ends: `no_run-X`, no run begins where X does. By the rows of UTF-8.
use Rattle.vte_core.proofs.Common.{and_parts, ap, arith, Bool, cases_Bool, cases_lt, drop, drop_all, drop_more, ends_run, false, false≢true, from_to, HasNoRunAt, inl, inr, is_control_character, is_in, is_layout, is_well_formed, length, List, nat_tests, printed_ascii, Range, refl, rules, scalar_of, second_range, slice_index, subst, suc, sym, take, true, utf8_rows, zero, ℕ, [], ◌+◌, ◌<◌, ◌∙◌, ◌∷◌, ◌≡◌, ◌≤◌}
use Rattle.vte_core.proofs.lemmas.bytes.Scalars.{continuation-bounds, in_range-bounds}
use Rattle.vte_core.proofs.lemmas.bytes.Utf8.{continuation, fits, rows-lone, rows-none, second_plain, tests-ascii, tests-four, tests-none, tests-three, tests-two}

-- No sequence that is printed begins at a position. Of a sequence that would begin there, the rows say the bytes; each
-- test of the search excludes one row.

-- The bytes from a position on are each in its range.
abbrev AreIn : List Range → List ℕ → ℕ → Type 0
AreIn [] bytes i = Unit {0}
AreIn (range ∷ ranges) bytes i =
    (i < length bytes) × (is_in range (slice_index bytes i) ≡ true) × AreIn ranges bytes (i + 1)

fits-in : (ranges : List Range) (bytes : List ℕ) (i m : ℕ) → fits ranges (take m (drop i bytes)) ≡ true
    → AreIn ranges bytes i
fits-in [] bytes i m fit = tt
fits-in (range ∷ ranges) bytes i zero fit = absurd (false≢true fit)
fits-in (range ∷ ranges) bytes i (suc m) fit = elim (cases_lt i (length bytes)) [
  | inl before_end ↦
      let both = and_parts _ _ (rw (drop_more bytes i 0 before_end) at fit) in
      (before_end, both.0, fits-in ranges bytes (i + 1) m both.1)
  | inr past ↦ absurd (false≢true (rw (drop_all i bytes (omega (arith, past))) at fit))
]

fits-none : (bytes : List ℕ) → fits [] bytes ≡ true → bytes ≡ []
fits-none [] fit = refl
fits-none (b ∷ bytes) fit = cc

-- There is one byte, in its range.
record OneIn (range : Range) (bytes : List ℕ) (i m : ℕ) : Type 0 where
  before_end : i < length bytes
  is_in_range : is_in range (slice_index bytes i) ≡ true
  same : take m (drop i bytes) ≡ slice_index bytes i ∷ []

fits-one : (range : Range) (bytes : List ℕ) (i m : ℕ) → fits (range ∷ []) (take m (drop i bytes)) ≡ true
    → OneIn range bytes i m
fits-one range bytes i m fit =
    let in_range = fits-in (range ∷ []) bytes i m fit in
    record { before_end = in_range.0; is_in_range = in_range.1; same = one range bytes i m in_range.0 fit }
  where
    one : (range : Range) (bytes : List ℕ) (i m : ℕ) → i < length bytes
        → fits (range ∷ []) (take m (drop i bytes)) ≡ true → take m (drop i bytes) ≡ slice_index bytes i ∷ []
    one range bytes i zero before_end fit = absurd (false≢true fit)
    one range bytes i (suc m) before_end fit =
        let cut = drop_more bytes i 0 before_end in
        ap (take (suc m)) cut ∙ ap (λ rest. slice_index bytes i ∷ rest) (fits-none _ (and_parts _ _ (rw cut at fit)).1)

module _ (layout : Bool) (bytes : List ℕ) (from a : ℕ) (before_end : from < length bytes)
    (byte_is : a ≡ slice_index bytes from) where
  -- The m bytes after the one at `from`.
  abbrev later : ℕ → List ℕ
  later m = take m (drop (from + 1) bytes)

  -- A well_formed-formed sequence there begins with the byte.
  record BeginsHere (n : ℕ) : Type 0 where
    m : ℕ
    parts : take n (drop from bytes) ≡ a ∷ later m
    well_formed : is_well_formed (a ∷ later m) ≡ true

  begins : (n : ℕ) → is_well_formed (take n (drop from bytes)) ≡ true → BeginsHere n
  unfolding is_well_formed utf8_rows
  begins zero whole = absurd (false≢true whole)
  begins (suc m) whole =
      let parts : take (suc m) (drop from bytes) ≡ a ∷ later m =
      ap (take (suc m)) (drop_more bytes from 0 before_end) ∙ ap (λ byte. byte ∷ later m) (sym byte_is) in
      record { m = m; parts = parts; well_formed = subst (λ (taken : List ℕ). is_well_formed taken ≡ true) parts whole }

  control-ends : (scalar : ℕ) → is_control_character scalar ≡ true → (layout ≡ true → is_layout scalar ≡ false)
      → ends_run layout scalar ≡ true
  control-ends scalar control other = search (rules, arith)

  -- A run ends at a byte that is neither printed nor kept, and begins no longer sequence.
  pub no_run-single : is_in printed_ascii a ≡ false → is_in (from_to 0xc2 0xf4) a ≡ false
      → (layout ≡ true → is_layout a ≡ false) → HasNoRunAt layout bytes from
  no_run-single other lone plain n far whole =
      let none_begins = begins n whole in
      elim (cases_lt a 0x80) [
        | inl low ↦
            let no_more =
            fits-none (later none_begins.m)
            (sym (tests-ascii a low (later none_begins.m)).is_whole ∙ none_begins.well_formed) in
            let control : is_control_character a ≡ true = grind (arith, nat_tests) in
            rw (none_begins.parts, no_more) (control-ends a control plain)
        | inr high ↦ elim (cases_lt a 0xc2) [
          | inl below ↦
              absurd
              (false≢true
              (sym (tests-none a (rows-lone a (omega (arith, high)) below)
              (later none_begins.m)).is_whole ∙ none_begins.well_formed))
          | inr above ↦
              let past : 0xf5 ≤ a = grind (arith, nat_tests) in
              absurd (false≢true
              (sym (tests-none a (rows-none a past) (later none_begins.m)).is_whole ∙ none_begins.well_formed))
        ]
      ]

  -- A run ends at a byte C2..DF without a sequence of two, or with that of a control.
  pub no_run-two : 0xc2 ≤ a → a < 0xe0
      → (from + 1 < length bytes → is_in continuation (slice_index bytes (from + 1)) ≡ true
      → (a ≡ 0xc2 → 0xa0 ≤ slice_index bytes (from + 1)) → ⊥) → HasNoRunAt layout bytes from
  no_run-two low high no_sequence n far whole =
      let none_begins = begins n whole in
      -- A sequence that began here would have two bytes, of which the second is a continuation.
      let one =
      fits-one (second_range a) bytes (from + 1) none_begins.m
      (sym (tests-two a low high (later none_begins.m)).is_whole ∙ none_begins.well_formed) in
      let b : ℕ = slice_index bytes (from + 1) in
      let second : is_in continuation b ≡ true =
      subst (λ range. is_in range b ≡ true)
      (second_plain a (omega arith) (omega arith) (omega arith) (omega arith)) one.is_in_range in
      -- By `no_sequence`, the sequence isn't that of a printed character, so it is C2 and a byte below A0.
      let control : (a ≡ 0xc2) × (b < 0xa0) = elim (cases_lt b 0xa0) [
        | inr up ↦ absurd (no_sequence one.before_end second (λ _. omega (arith, up)))
        | inl down ↦ elim (cases_lt 0xc2 a) [
          | inl past ↦ absurd (no_sequence one.before_end second (λ same. absurd (omega (arith, same, past))))
          | inr first ↦ (omega (arith, first, low), down)
        ]
      ] in
      -- The number of such a sequence is that of its second byte, a control.
      let bounds = continuation-bounds b second in
      let number : scalar_of (a ∷ b ∷ []) ≡ b = omega (arith, control.0, bounds.0) in
      rw (none_begins.parts, one.same, number)
      (control-ends b (grind (arith, nat_tests, control.1, bounds.0)) (λ _. grind (arith, nat_tests, bounds.0)))

  -- A run ends at a byte E0..EF without a sequence of three.
  pub no_run-three : 0xe0 ≤ a → a < 0xf0
      → (from + 2 < length bytes → is_in (second_range a) (slice_index bytes (from + 1)) ≡ true
      → is_in continuation (slice_index bytes (from + 2)) ≡ true → ⊥) → HasNoRunAt layout bytes from
  no_run-three low high no_sequence n far whole =
      let none_begins = begins n whole in
      let those =
      fits-in (second_range a ∷ continuation ∷ []) bytes (from + 1) none_begins.m
      (sym (tests-three a low high (later none_begins.m)).is_whole ∙ none_begins.well_formed) in
      let same : from + 1 + 1 ≡ from + 2 = omega arith in
      absurd (no_sequence (rw same at those.2.0) those.1 (rw same at those.2.1))

  -- A run ends at a byte F0..F4 without a sequence of four.
  pub no_run-four : 0xf0 ≤ a → is_in (from_to 0xc2 0xf4) a ≡ true
      → (from + 3 < length bytes → is_in (second_range a) (slice_index bytes (from + 1)) ≡ true
      → is_in continuation (slice_index bytes (from + 2)) ≡ true
      → is_in continuation (slice_index bytes (from + 3)) ≡ true → ⊥) → HasNoRunAt layout bytes from
  no_run-four low lead no_sequence n far whole =
      let none_begins = begins n whole in
      let high : a < 0xf5 = omega (arith, (in_range-bounds (from_to 0xc2 0xf4) a lead).1) in
      let those =
      fits-in (second_range a ∷ continuation ∷ continuation ∷ []) bytes (from + 1) none_begins.m
      (sym (tests-four a low high (later none_begins.m)).is_whole ∙ none_begins.well_formed) in
      let same : from + 1 + 1 ≡ from + 2 = omega arith in
      let f : from + 2 + 1 ≡ from + 3 = omega arith in
      absurd (no_sequence (rw (same, f) at those.2.2.0) those.1 (rw same at those.2.1) (rw (same, f) at those.2.2.1))

  -- A run ends at a first byte that no byte follows.
  pub no_run-long : is_in (from_to 0xc2 0xf4) a ≡ true → (from + 1 < length bytes → ⊥) → HasNoRunAt layout bytes from
  no_run-long lead no_next =
      let bounds = in_range-bounds (from_to 0xc2 0xf4) a lead in
      elim (cases_lt a 0xe0) [
        | inl two ↦ no_run-two bounds.0 two (λ more continues plain. no_next more)
        | inr rest ↦ elim (cases_lt a 0xf0) [
          | inl three ↦ no_run-three (omega (arith, rest)) three (λ more second third. no_next (omega (arith, more)))
          | inr four ↦
              no_run-four (omega (arith, four)) lead (λ more second third fourth. no_next (omega (arith, more)))
        ]
      ]

-- No run begins at the end of the bytes.
pub no_run-all : (layout : Bool) (bytes : List ℕ) (place : ℕ) → length bytes ≤ place → HasNoRunAt layout bytes place
unfolding is_well_formed utf8_rows
no_run-all layout bytes place all l far whole = search (rules, arith)

-- ASCII that is printed begins a run, so a byte at which no run begins isn't such.
pub no_run-unprinted : (bytes : List ℕ) (from : ℕ) → from < length bytes → HasNoRunAt false bytes from
    → is_in printed_ascii (slice_index bytes from) ≡ false
unfolding is_well_formed utf8_rows
no_run-unprinted bytes from before_end ended = elim (cases_Bool (is_in printed_ascii (slice_index bytes from))) [
  | inr other ↦ other
  | inl printed ↦
      let b : ℕ = slice_index bytes from in
      let one : take 1 (drop from bytes) ≡ b ∷ [] = ap (take 1) (drop_more bytes from 0 before_end) in
      let below : b < 0x80 = grind (arith, nat_tests) in
      let well_formed : is_well_formed (b ∷ []) ≡ true = (tests-ascii b below []).is_whole in
      let control : is_control_character b ≡ true = rw one at (ended 1 (omega arith) (rw one well_formed)) in
      absurd (grind (arith, nat_tests))
]

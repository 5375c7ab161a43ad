-- The number of a well-formed sequence is that of a character: of its bytes, each in its range, the sum has bounds. So
-- too with one more byte of an open one.
use Rattle.vte_core.proofs.Common.{and_from, and_parts, ap, arith, cases_lt, Extends, false, false≢true, from_to, inl, inr, InScalarRange, is_in, is_truncated, is_well_formed, IsScalar, length, List, nat_tests, Range, refl, rules, scalar_of, second_range, subst, suc, sym, Three, true, Two, utf8_rows, ℕ, [], ◌%◌, ◌&&◌, ◌*◌, ◌++◌, ◌+◌, ◌<◌, ◌∙◌, ◌∷◌, ◌≡◌, ◌≤◌}
use Rattle.vte_core.proofs.lemmas.bytes.Utf8.{ascii, continuation, first_byte, FirstByte, fits, lone, of_four, of_three, of_two, rows-lone, rows-none, second_plain, Tests, tests-ascii, tests-four, tests-none, tests-three, tests-two, truncated-first, truncated-three, truncated-two}
use Rattle.vte_core.specs.declared.utf8.Extension.{Extension}
use Rattle.vte_core.specs.declared.utf8.Extension.TheVariants.{Malformed, Truncated, WellFormed}

-- ---- the bounds of a byte in a range

-- The bounds of the second byte b of a sequence that begins with a.
pub record SecondByte (a b : ℕ) : Type 0 where
  pub low : 0x80 ≤ b
  pub high : b ≤ 0xbf
  pub not_overlong_three : a ≡ 0xe0 → 0xa0 ≤ b
  pub not_surrogate : a ≡ 0xed → b ≤ 0x9f
  pub not_overlong_four : a ≡ 0xf0 → 0x90 ≤ b
  pub not_past_the_last : a ≡ 0xf4 → b ≤ 0x8f

pub in_range-bounds : (range : Range) (b : ℕ) → is_in range b ≡ true → (range.first ≤ b) × (b ≤ range.last)
in_range-bounds range b fits = search (rules, arith)

-- The third or fourth byte of a sequence.
abbrev pub IsContinuation : ℕ → Type 0
IsContinuation b = (0x80 ≤ b) × (b ≤ 0xbf)

pub continuation-bounds : (b : ℕ) → is_in continuation b ≡ true → IsContinuation b
continuation-bounds b fits = in_range-bounds continuation b fits

second_byte : {a b : ℕ} → is_in (second_range a) b ≡ true → SecondByte a b
unfolding second_range
second_byte fits = search (rules, arith)

-- ---- the character of a well-formed sequence

-- For each number of bytes (`Sequence`), the ranges of the bytes bound the number of the character.

in_range-two : (a b : ℕ) → 0xc2 ≤ a → a < 0xe0 → SecondByte a b → InScalarRange (scalar_of (a ∷ b ∷ []))
in_range-two a b low high second = inl (omega arith)

in_range-three : (a b c : ℕ) → 0xe0 ≤ a → a < 0xf0 → SecondByte a b → IsContinuation c
    → InScalarRange (scalar_of (a ∷ b ∷ c ∷ []))
in_range-three a b c low high second third = search (rules, arith)

in_range-four : (a b c d : ℕ) → 0xf0 ≤ a → a < 0xf5 → SecondByte a b → IsContinuation c → IsContinuation d
    → InScalarRange (scalar_of (a ∷ b ∷ c ∷ d ∷ []))
in_range-four a b c d low high second third fourth = search (rules, arith)

-- There are as many bytes as ranges that they fit.
fits-length : (ranges : List Range) (bytes : List ℕ) → fits ranges bytes ≡ true → length bytes ≡ length ranges
fits-length [] [] fit = refl
fits-length [] (b ∷ bytes) fit = absurd (false≢true fit)
fits-length (range ∷ ranges) [] fit = absurd (false≢true fit)
fits-length (range ∷ ranges) (b ∷ bytes) fit =
    ap suc (fits-length ranges bytes (and_parts (is_in range b) (fits ranges bytes) fit).1)

-- A well-formed sequence, by its bytes.
pub data Sequence (p : List ℕ) : Type 0 where
  whole_one : (a : ℕ) → p ≡ a ∷ [] → a < 0x80 → Sequence p
  whole_two : (a b : ℕ) → p ≡ a ∷ b ∷ [] → 0xc2 ≤ a → a < 0xe0 → SecondByte a b → Sequence p
  whole_three : (a b c : ℕ) → p ≡ a ∷ b ∷ c ∷ [] → 0xe0 ≤ a → a < 0xf0 → SecondByte a b → IsContinuation c → Sequence p
  whole_four : (a b c d : ℕ) → p ≡ a ∷ b ∷ c ∷ d ∷ [] → 0xf0 ≤ a → a < 0xf5 → SecondByte a b → IsContinuation c
      → IsContinuation d → Sequence p

fit-two : (first : ℕ) (rest : List ℕ) → 0xc2 ≤ first → first < 0xe0 → fits (second_range first ∷ []) rest ≡ true
    → Sequence (first ∷ rest)
fit-two first (b ∷ []) low high fit = whole_two first b refl low high (second_byte (and_parts _ _ fit).0)
fit-two first rest low high fit = search (rules, arith, fits-length)

fit-three : (first : ℕ) (rest : List ℕ) → 0xe0 ≤ first → first < 0xf0
    → fits (second_range first ∷ continuation ∷ []) rest ≡ true
    → Sequence (first ∷ rest)
fit-three first (b ∷ c ∷ []) low high fit =
    let parts : (is_in (second_range first) b ≡ true) × ((is_in continuation c && true) ≡ true) = and_parts _ _ fit in
    whole_three first b c refl low high (second_byte parts.0) (continuation-bounds c (and_parts _ _ parts.1).0)
fit-three first rest low high fit = search (rules, arith, fits-length, continuation)

fit-four : (first : ℕ) (following : List ℕ) → 0xf0 ≤ first → first < 0xf5
    → fits (second_range first ∷ continuation ∷ continuation ∷ []) following ≡ true → Sequence (first ∷ following)
fit-four first (b ∷ c ∷ d ∷ []) low high fit =
    let parts : (is_in (second_range first) b ≡ true) ×
    ((is_in continuation c && (is_in continuation d && true)) ≡ true) =
    and_parts _ _ fit in
    let rest : (is_in continuation c ≡ true) × ((is_in continuation d && true) ≡ true) = and_parts _ _ parts.1 in
    whole_four first b c d refl low high (second_byte parts.0) (continuation-bounds c rest.0)
    (continuation-bounds d (and_parts _ _ rest.1).0)
fit-four first following low high fit = search (rules, arith, fits-length, continuation)

by_first : (first : ℕ) (rest : List ℕ) → FirstByte first → is_well_formed (first ∷ rest) ≡ true
    → Sequence (first ∷ rest)
by_first first [] (ascii high) whole = whole_one first refl high
by_first first (b ∷ rest) (ascii high) whole =
    absurd (false≢true (sym (tests-ascii first high (b ∷ rest)).is_whole ∙ whole))
by_first first rest (lone no_row) whole = absurd (false≢true (sym (tests-none first no_row rest).is_whole ∙ whole))
by_first first rest (of_two low high) whole =
    fit-two first rest low high (sym (tests-two first low high rest).is_whole ∙ whole)
by_first first rest (of_three low high) whole =
    fit-three first rest low high (sym (tests-three first low high rest).is_whole ∙ whole)
by_first first rest (of_four low high) whole =
    fit-four first rest low high (sym (tests-four first low high rest).is_whole ∙ whole)

-- Each well-formed sequence has one of these shapes.
pub sequence : (bytes : List ℕ) → is_well_formed bytes ≡ true → Sequence bytes
unfolding is_well_formed utf8_rows
sequence [] whole = absurd (false≢true whole)
sequence (a ∷ bytes) whole = by_first a bytes (first_byte a) whole

scalar_of-in_range : (bytes : List ℕ) → is_well_formed bytes ≡ true → InScalarRange (scalar_of bytes)
scalar_of-in_range bytes whole = search (rules, arith, sequence, in_range-two, in_range-three, in_range-four)

is_scalar : (c : ℕ) → InScalarRange c → IsScalar c
is_scalar c in_range = search (rules, arith)

-- Its number is no surrogate, and at most U+10FFFF.
pub well_formed_is_scalar : (bytes : List ℕ) → is_well_formed bytes ≡ true → IsScalar (scalar_of bytes)
well_formed_is_scalar bytes well = is_scalar (scalar_of bytes) (scalar_of-in_range bytes well)

-- ---- one more byte

-- What one more byte makes of an open character, by the ranges of its bytes: a well-formed sequence, a longer
-- truncated one, or neither. Each is computed from the rows that its first byte leaves.

-- ---- a first byte: C2..F4 begins a longer sequence, and what else is no ASCII begins none

pub first_truncated : (b : ℕ) → 0xc2 ≤ b → b < 0xf5 → is_truncated (b ∷ []) ≡ true
unfolding is_truncated utf8_rows
first_truncated b low high = grind (arith, nat_tests)

-- A byte from 80 on that begins no sequence is neither well-formed nor truncated.
pub begins_none : (b : ℕ) → 0x80 ≤ b → is_in (from_to 0xc2 0xf4) b ≡ false → Tests (b ∷ []) false false
begins_none b high no_lead = elim (cases_lt b 0xc2) [
  | inl below ↦ tests-none b (rows-lone b high below) []
  | inr from_c2 ↦ tests-none b (rows-none b (grind (arith, nat_tests))) []
]

-- ---- a character made of its bytes

-- The bytes are a well-formed sequence, and the number is its character's.
pub record Spells (p : List ℕ) (number : ℕ) : Type 0 where
  pub is_whole : is_well_formed p ≡ true
  pub same : number ≡ scalar_of p

-- The number that the code computes of two, three or four bytes is that of their character.
pub spells-two : {a b : ℕ} → 0xc2 ≤ a → a < 0xe0 → is_in continuation b ≡ true
    → Spells (a ∷ b ∷ []) (a % 32 * 0x40 + b % 64)
unfolding is_well_formed utf8_rows
spells-two {a} {b} low high second = search (rules, arith)

pub spells-three : {a b c : ℕ} → 0xe0 ≤ a → a < 0xf0 → is_in (second_range a) b ≡ true → is_in continuation c ≡ true
    → Spells (a ∷ b ∷ c ∷ []) ((a % 16 * 0x40 + b % 64) * 0x40 + c % 64)
spells-three {a} {b} {c} low high second third =
    search (rules, arith, second_byte, continuation-bounds, tests-three, and_from)

pub spells-four : {a b c d : ℕ} → 0xf0 ≤ a → a < 0xf5 → is_in (second_range a) b ≡ true → is_in continuation c ≡ true
    → is_in continuation d ≡ true
    → Spells (a ∷ b ∷ c ∷ d ∷ []) (((a % 8 * 0x40 + b % 64) * 0x40 + c % 64) * 0x40 + d % 64)
spells-four {a} {b} {c} {d} low high second third fourth =
    search (rules, arith, second_byte, continuation-bounds, tests-four, and_from)

-- So a number that is computed of bytes is one of a character.
pub spells-scalar : (bytes : List ℕ) (number : ℕ) → Spells bytes number → IsScalar number
spells-scalar bytes number spells = subst IsScalar (sym spells.same) (well_formed_is_scalar bytes spells.is_whole)

-- `Spells` holds of an equal number too.
pub spells-same : {bytes : List ℕ} {number other : ℕ} → Spells bytes number → other ≡ number → Spells bytes other
spells-same spells same = search (rules, arith)

-- A byte that completes a well-formed sequence extends the character to `WellFormed`, with its number.
whole_by : (bytes : List ℕ) (b : ℕ) {number : ℕ} (extended : Extension) → Spells (bytes ++ b ∷ []) number
    → (InScalarRange number → extended ≡ WellFormed number) → Extends bytes b extended
whole_by bytes b extended spells makes = search (rules, arith, scalar_of-in_range)

-- ---- the second byte of a character

-- `broken`: it is out of its range; `whole`: it is the last; `open`: more bytes follow. So too of the third and fourth.

pub second-broken : (a b : ℕ) → is_truncated (a ∷ []) ≡ true → is_in (second_range a) b ≡ false
    → Extends (a ∷ []) b Malformed
unfolding is_well_formed is_truncated utf8_rows second_range
second-broken a b truncated misfits = (grind (arith, nat_tests), grind (arith, nat_tests))

-- A byte that is no continuation is the second byte of no character.
pub second-lone : (a b : ℕ) → is_in continuation b ≡ false → is_in (second_range a) b ≡ false
unfolding second_range
second-lone a b misfits = grind (arith, nat_tests)

pub second-whole : (a b number : ℕ) (extended : Extension) → is_truncated (a ∷ []) ≡ true
    → is_in (second_range a) b ≡ true → a < 0xe0
    → number ≡ a % 32 * 0x40 + b % 64 → (InScalarRange number → extended ≡ WellFormed number)
    → Extends (a ∷ []) b extended
second-whole a b number extended truncated second below same makes =
    search (rules, arith, truncated-first, continuation, second_plain, whole_by, spells-same, spells-two)

pub second-open : (a b : ℕ) → is_truncated (a ∷ []) ≡ true → is_in (second_range a) b ≡ true → 0xe0 ≤ a
    → Extends (a ∷ []) b (Truncated (Two a b))
unfolding is_truncated utf8_rows second_range
second-open a b truncated second low = (refl, grind (arith, nat_tests))

-- ---- the third byte

pub third-broken : (a b c : ℕ) → is_truncated (a ∷ b ∷ []) ≡ true → is_in continuation c ≡ false
    → Extends (a ∷ b ∷ []) c Malformed
unfolding is_well_formed is_truncated utf8_rows
third-broken a b c truncated misfits = (grind (arith, nat_tests), grind (arith, nat_tests))

pub third-whole : (a b c number : ℕ) (extended : Extension) → is_truncated (a ∷ b ∷ []) ≡ true
    → is_in continuation c ≡ true → a < 0xf0
    → number ≡ (a % 16 * 0x40 + b % 64) * 0x40 + c % 64 → (InScalarRange number → extended ≡ WellFormed number)
    → Extends (a ∷ b ∷ []) c extended
third-whole a b c number extended truncated third below same makes =
    search (rules, arith, truncated-two, whole_by, spells-same, spells-three)

pub third-open : (a b c : ℕ) → is_truncated (a ∷ b ∷ []) ≡ true → is_in continuation c ≡ true → 0xf0 ≤ a
    → Extends (a ∷ b ∷ []) c (Truncated (Three a b c))
unfolding is_truncated utf8_rows
third-open a b c truncated third low = (refl, grind (arith, nat_tests))

-- ---- the fourth byte

pub fourth-broken : (a b c d : ℕ) → is_truncated (a ∷ b ∷ c ∷ []) ≡ true → is_in continuation d ≡ false
    → Extends (a ∷ b ∷ c ∷ []) d Malformed
unfolding is_well_formed is_truncated utf8_rows
fourth-broken a b c d truncated misfits = (grind (arith, nat_tests), grind (arith, nat_tests))

pub fourth-whole : (a b c d number : ℕ) (extended : Extension) → is_truncated (a ∷ b ∷ c ∷ []) ≡ true
    → is_in continuation d ≡ true
    → number ≡ ((a % 8 * 0x40 + b % 64) * 0x40 + c % 64) * 0x40 + d % 64
    → (InScalarRange number → extended ≡ WellFormed number)
    → Extends (a ∷ b ∷ c ∷ []) d extended
fourth-whole a b c d number extended truncated fourth same makes =
    search (rules, arith, truncated-three, whole_by, spells-same, spells-four)

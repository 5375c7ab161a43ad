-- What the rows of UTF-8 say of bytes one after the other. The rows ascend, so after a first byte at most one is left,
-- and bytes are well formed, truncated or neither by what it still wants.
use Rattle.vte_core.proofs.Common.{allowed_length, and_left, and_parts, and_right, ap, arith, Bool, cases_Bool, cases_lt, false, false≢true, from_to, inl, inr, is_complete, is_in, is_truncated, is_well_formed, leb-true, length, List, list_any, lt-leb, nat_le, nat_tests, not, Range, refl, rows_after_byte, rows_after_bytes, rules, second_range, suc, sym, true, utf8_rows, ℕ, [], ◌&&◌, ◌++◌, ◌+◌, ◌<◌, ◌∙◌, ◌∷◌, ◌≡◌, ◌≢◌, ◌≤◌}

-- ---- after a byte at most one row is left

-- There is no row, or one.
abbrev AtMostOne : List (List Range) → Type 0
AtMostOne [] = Unit {0}
AtMostOne (row ∷ []) = Unit {0}
AtMostOne (row ∷ next ∷ rows) = ⊥

-- The rows begin with ranges above n, each above the one before.
abbrev ascends : ℕ → List (List Range) → Bool
ascends n [] = true
ascends n ([] ∷ rows) = false
ascends n ((range ∷ ranges) ∷ rows) =
    nat_le n range.first && (nat_le range.first range.last && ascends (range.last + 1) rows)

-- A byte between the bounds of a range is in it.
pub in_range : (range : Range) (b : ℕ) → range.first ≤ b → b ≤ range.last → is_in range b ≡ true
in_range range b low high = search (rules, arith)

below_range : (range : Range) (b : ℕ) → b < range.first → is_in range b ≡ false
below_range range b low = and_left _ _ (lt-leb range.first b low)

ascends_parts : (n : ℕ) (range : Range) (ranges : List Range) (rows : List (List Range))
    → ascends n ((range ∷ ranges) ∷ rows) ≡ true
    → (n ≤ range.first) × (range.first ≤ range.last) × (ascends (range.last + 1) rows ≡ true)
ascends_parts n range ranges rows up = search (rules, arith)

-- Rows that begin above the byte want nothing after it.
none_after : (n b : ℕ) (rows : List (List Range)) → ascends n rows ≡ true → b < n → rows_after_byte b rows ≡ []
none_after n b [] up low = refl
none_after n b ([] ∷ rows) up low = cc
none_after n b ((range ∷ ranges) ∷ rows) up low =
    let parts = ascends_parts n range ranges rows up in
    rw (below_range range b (omega (arith, low, parts.0)))
    (none_after (range.last + 1) b rows parts.2 (omega (arith, low, parts.0, parts.1)))

AtMostOne-after_rows : (n b : ℕ) (rows : List (List Range)) → ascends n rows ≡ true → AtMostOne (rows_after_byte b rows)
AtMostOne-after_rows n b [] up = tt
AtMostOne-after_rows n b ([] ∷ rows) up = cc
AtMostOne-after_rows n b ((range ∷ ranges) ∷ rows) up =
    let rest = (ascends_parts n range ranges rows up).2 in
    elim (cases_Bool (is_in range b)) [
      | inl same ↦ rw same (later (leb-true _ _ (and_parts _ _ same).1) rest)
      | inr same ↦ rw same (AtMostOne-after_rows (range.last + 1) b rows rest)
    ]
  where
    later : b ≤ range.last → ascends (range.last + 1) rows ≡ true → AtMostOne (ranges ∷ rows_after_byte b rows)
    later low up = rw (none_after (range.last + 1) b rows up (omega arith)) tt

-- A first byte leaves at most one row of the table.
pub AtMostOne-first : (b : ℕ) → AtMostOne (rows_after_byte b utf8_rows)
unfolding utf8_rows
AtMostOne-first b = AtMostOne-after_rows 0 b utf8_rows refl

AtMostOne-next : (b : ℕ) (rows : List (List Range)) → AtMostOne rows → AtMostOne (rows_after_byte b rows)
AtMostOne-next b rows one = search (rules, arith)

-- Further bytes never leave more.
pub AtMostOne-rows_after_bytes : (bytes : List ℕ) (rows : List (List Range)) → AtMostOne rows
    → AtMostOne (rows_after_bytes bytes rows)
AtMostOne-rows_after_bytes [] rows one = one
AtMostOne-rows_after_bytes (b ∷ bytes) rows one =
    AtMostOne-rows_after_bytes bytes (rows_after_byte b rows) (AtMostOne-next b rows one)

pub rows_after_bytes-none : (bytes : List ℕ) → rows_after_bytes bytes [] ≡ []
rows_after_bytes-none [] = refl
rows_after_bytes-none (b ∷ bytes) = rows_after_bytes-none bytes

pub rows_after_bytes-append : (bytes more : List ℕ) (rows : List (List Range))
    → rows_after_bytes (bytes ++ more) rows ≡ rows_after_bytes more (rows_after_bytes bytes rows)
rows_after_bytes-append [] more rows = refl
rows_after_bytes-append (b ∷ bytes) more rows = rows_after_bytes-append bytes more (rows_after_byte b rows)

-- ---- the two tests of what is left

-- Some row wants nothing more: the bytes are complete.
abbrev pub some_complete : List (List Range) → Bool
some_complete rows = list_any is_complete rows

-- Some row wants more: the bytes are truncated.
abbrev pub some_truncated : List (List Range) → Bool
some_truncated rows = list_any (λ row. not (is_complete row)) rows

-- If at most one row is left, bytes aren't both complete and truncated.
pub complete_not_truncated : (rows : List (List Range)) → AtMostOne rows → some_complete rows ≡ true
    → some_truncated rows ≡ false
complete_not_truncated rows one whole = search (rules, arith)

pub truncated_not_complete : (rows : List (List Range)) → AtMostOne rows → some_truncated rows ≡ true
    → some_complete rows ≡ false
truncated_not_complete rows one more = search (rules, arith)

-- Bytes that are neither leave no row.
pub neither_complete_nor_truncated : (rows : List (List Range)) → some_complete rows ≡ false
    → some_truncated rows ≡ false → rows ≡ []
neither_complete_nor_truncated [] whole more = refl
neither_complete_nor_truncated ([] ∷ rows) whole more = cc
neither_complete_nor_truncated ((range ∷ ranges) ∷ rows) whole more = cc

-- ---- how many bytes the rows allow

-- The rows allow as many bytes as some row wants, one after the other.

pub allowed_length-none : (bytes : List ℕ) → allowed_length [] bytes ≡ 0
allowed_length-none [] = refl
allowed_length-none (b ∷ bytes) = refl

-- Either no row wants the byte, or it is allowed with what the rows that are left allow of the bytes after it.
pub data Allowed (rows : List (List Range)) (b : ℕ) (bytes : List ℕ) : Type 0 where
  unwanted : rows_after_byte b rows ≡ [] → allowed_length rows (b ∷ bytes) ≡ 0 → Allowed rows b bytes
  wanted : rows_after_byte b rows ≢ []
      → allowed_length rows (b ∷ bytes) ≡ suc (allowed_length (rows_after_byte b rows) bytes) → Allowed rows b bytes

-- Of each byte, one of the two holds.
pub allowed : (rows : List (List Range)) (b : ℕ) (bytes : List ℕ) → Allowed rows b bytes
allowed rows b bytes = search (rules, arith)

-- If such a test holds after bytes, a row was left before them.
some_left : (test : List (List Range) → Bool) → test [] ≡ false → (bytes : List ℕ) (rows : List (List Range))
    → test (rows_after_bytes bytes rows) ≡ true → rows ≢ []
some_left test nothing bytes rows holds no_row = search (rules, arith, rows_after_bytes-none)

allowed_length-more : (rows : List (List Range)) (b : ℕ) (bytes : List ℕ) → rows_after_byte b rows ≢ []
    → allowed_length rows (b ∷ bytes) ≡ suc (allowed_length (rows_after_byte b rows) bytes)
allowed_length-more rows b bytes has_row = search (rules, arith)

-- A sequence is allowed whole, and nothing after it.
pub allowed_length-whole : (rows : List (List Range)) (bytes following : List ℕ) → AtMostOne rows
    → some_complete (rows_after_bytes bytes rows) ≡ true
    → allowed_length rows (bytes ++ following) ≡ length bytes
allowed_length-whole rows [] [] one whole = refl
allowed_length-whole [] [] (c ∷ following) one whole = refl
allowed_length-whole ([] ∷ []) [] (c ∷ following) one whole = refl
allowed_length-whole ((range ∷ ranges) ∷ []) [] (c ∷ following) one whole = cc
allowed_length-whole (row ∷ next ∷ rows) [] (c ∷ following) one whole = absurd one
allowed_length-whole rows (b ∷ bytes) following one whole =
    allowed_length-more rows b (bytes ++ following) (some_left some_complete refl bytes _ whole)
    ∙ ap suc (allowed_length-whole (rows_after_byte b rows) bytes following (AtMostOne-next b rows one) whole)

-- A truncated sequence is allowed whole, and nothing after it that no row wants there.
pub allowed_length-broken : (rows : List (List Range)) (bytes : List ℕ) (b : ℕ) (following : List ℕ)
    → some_truncated (rows_after_bytes bytes rows) ≡ true
    → rows_after_byte b (rows_after_bytes bytes rows) ≡ [] → allowed_length rows (bytes ++ b ∷ following) ≡ length bytes
allowed_length-broken rows [] b following more no_row = rw (no_row, allowed_length)
allowed_length-broken rows (c ∷ bytes) b following more no_row =
    allowed_length-more rows c (bytes ++ b ∷ following) (some_left some_truncated refl bytes _ more)
    ∙ ap suc (allowed_length-broken (rows_after_byte c rows) bytes b following more no_row)

-- A truncated sequence at the end is allowed whole.
pub allowed_length-end : (rows : List (List Range)) (bytes : List ℕ)
    → some_truncated (rows_after_bytes bytes rows) ≡ true
    → allowed_length rows bytes ≡ length bytes
allowed_length-end rows [] more = refl
allowed_length-end rows (c ∷ bytes) more =
    allowed_length-more rows c bytes (some_left some_truncated refl bytes _ more)
    ∙ ap suc (allowed_length-end (rows_after_byte c rows) bytes more)

-- ---- the range of a second byte, and the first bytes after which no row is left, by the nine rows

-- Only E0, ED, F0 and F4 are followed by a smaller range than 80..BF.
pub second_plain : (first : ℕ) → first ≢ 0xe0 → first ≢ 0xed → first ≢ 0xf0 → first ≢ 0xf4
    → second_range first ≡ from_to 0x80 0xbf
unfolding second_range
second_plain first e0 ed f0 f4 = grind (arith, nat_tests)

-- The range of a byte after the second.
abbrev pub continuation : Range
continuation = from_to 0x80 0xbf

-- 80..C1 begin no sequence.
pub rows-lone : (first : ℕ) → 0x80 ≤ first → first < 0xc2 → rows_after_byte first utf8_rows ≡ []
unfolding utf8_rows
rows-lone first low high = grind (arith, nat_tests)

-- Nor do F5..FF.
pub rows-none : (first : ℕ) → 0xf5 ≤ first → rows_after_byte first utf8_rows ≡ []
unfolding utf8_rows
rows-none first low = grind (arith, nat_tests)

-- ---- the kinds of first bytes

-- What a byte begins: a sequence of one, two, three or four bytes, or none.
pub data FirstByte (a : ℕ) : Type 0 where
  ascii : a < 0x80 → FirstByte a
  lone : rows_after_byte a utf8_rows ≡ [] → FirstByte a
  of_two : 0xc2 ≤ a → a < 0xe0 → FirstByte a
  of_three : 0xe0 ≤ a → a < 0xf0 → FirstByte a
  of_four : 0xf0 ≤ a → a < 0xf5 → FirstByte a

-- Each byte is one of these.
pub first_byte : (first : ℕ) → FirstByte first
first_byte first =
    elim (cases_lt first 0x80) [
      | inl below ↦ ascii below
      | inr from_80 ↦ elim (cases_lt first 0xc2) [
        | inl below ↦ lone (rows-lone first from_80 below)
        | inr from_c2 ↦ elim (cases_lt first 0xe0) [
          | inl below ↦ of_two from_c2 below
          | inr from_e0 ↦ elim (cases_lt first 0xf0) [
            | inl below ↦ of_three from_e0 below
            | inr from_f0 ↦ elim (cases_lt first 0xf5) [
              | inl below ↦ of_four from_f0 below
              | inr from_f5 ↦ lone (rows-none first from_f5)
            ]
          ]
        ]
      ]
    ]

-- ---- the two tests of a sequence, by its first byte and the ranges of the others

-- There is a byte for each range, and each is in its own.
abbrev pub fits : List Range → List ℕ → Bool
fits [] [] = true
fits [] (b ∷ bytes) = false
fits (range ∷ ranges) [] = false
fits (range ∷ ranges) (b ∷ bytes) = is_in range b && fits ranges bytes

-- The bytes fit the first ranges, and some ranges are left.
abbrev fits_prefix : List Range → List ℕ → Bool
fits_prefix [] bytes = false
fits_prefix (range ∷ ranges) [] = true
fits_prefix (range ∷ ranges) (b ∷ bytes) = is_in range b && fits_prefix ranges bytes

some_complete-row : (ranges : List Range) (bytes : List ℕ)
    → some_complete (rows_after_bytes bytes (ranges ∷ [])) ≡ fits ranges bytes
some_complete-row [] [] = refl
some_complete-row [] (b ∷ bytes) = ap some_complete (rows_after_bytes-none bytes)
some_complete-row (range ∷ ranges) [] = refl
some_complete-row (range ∷ ranges) (b ∷ bytes) =
    search (rules, arith, (some_complete-row ranges bytes), rows_after_bytes-none)

some_truncated-row : (ranges : List Range) (bytes : List ℕ)
    → some_truncated (rows_after_bytes bytes (ranges ∷ [])) ≡ fits_prefix ranges bytes
some_truncated-row [] [] = refl
some_truncated-row [] (b ∷ bytes) = ap some_truncated (rows_after_bytes-none bytes)
some_truncated-row (range ∷ ranges) [] = refl
some_truncated-row (range ∷ ranges) (b ∷ bytes) =
    search (rules, arith, (some_truncated-row ranges bytes), rows_after_bytes-none)

-- What the two tests say of bytes.
pub record Tests (bytes : List ℕ) (whole more : Bool) : Type 0 where
  pub is_whole : is_well_formed bytes ≡ whole
  pub is_open : is_truncated bytes ≡ more

-- After a first byte that leaves one row, the tests are whether the other bytes fit its ranges.
pub tests-row : (first : ℕ) (ranges : List Range) → rows_after_byte first utf8_rows ≡ ranges ∷ [] → (rest : List ℕ)
    → Tests (first ∷ rest) (fits ranges rest) (fits_prefix ranges rest)
unfolding is_well_formed is_truncated
tests-row first ranges same rest = search (rules, arith, some_complete-row, some_truncated-row)

-- After one that leaves no row, neither test holds.
pub tests-none : (first : ℕ) → rows_after_byte first utf8_rows ≡ [] → (rest : List ℕ) → Tests (first ∷ rest) false false
unfolding is_well_formed is_truncated
tests-none first no_row rest = search (rules, arith, rows_after_bytes-none)

-- After a first byte of one, two, three or four, the others have these ranges.
pub tests-ascii : (first : ℕ) → first < 0x80 → (rest : List ℕ) → Tests (first ∷ rest) (fits [] rest) false
unfolding utf8_rows
tests-ascii first high rest = tests-row first [] (grind (arith, nat_tests)) rest

pub tests-two : (first : ℕ) → 0xc2 ≤ first → first < 0xe0 → (rest : List ℕ)
    → Tests (first ∷ rest) (fits (second_range first ∷ []) rest) (fits_prefix (second_range first ∷ []) rest)
unfolding utf8_rows second_range
tests-two first low high rest = tests-row first (second_range first ∷ []) (grind (arith, nat_tests)) rest

pub tests-three : (first : ℕ) → 0xe0 ≤ first → first < 0xf0 → (rest : List ℕ)
    → Tests (first ∷ rest) (fits (second_range first ∷ continuation ∷ []) rest)
    (fits_prefix (second_range first ∷ continuation ∷ []) rest)
unfolding utf8_rows second_range
tests-three first low high rest =
    tests-row first (second_range first ∷ continuation ∷ []) (grind (arith, nat_tests)) rest

pub tests-four : (first : ℕ) → 0xf0 ≤ first → first < 0xf5 → (rest : List ℕ)
    → Tests (first ∷ rest) (fits (second_range first ∷ continuation ∷ continuation ∷ []) rest)
    (fits_prefix (second_range first ∷ continuation ∷ continuation ∷ []) rest)
unfolding utf8_rows second_range
tests-four first low high rest =
    tests-row first (second_range first ∷ continuation ∷ continuation ∷ []) (grind (arith, nat_tests)) rest

-- ---- the bytes of a truncated sequence, up to three

-- A truncated sequence begins with C2..F4.
pub truncated-first : (first : ℕ) (rest : List ℕ) → is_truncated (first ∷ rest) ≡ true → (0xc2 ≤ first) × (first < 0xf5)
truncated-first first rest truncated = elim (first_byte first) [
  | ascii high ↦ absurd (false≢true (sym (tests-ascii first high rest).is_open ∙ truncated))
  | lone no_row ↦ absurd (false≢true (sym (tests-none first no_row rest).is_open ∙ truncated))
  | of_two low high ↦ (low, omega arith)
  | of_three low high ↦ (omega arith, omega arith)
  | of_four low high ↦ (omega arith, high)
]

-- The first two bytes of a sequence of three or four.
pub record TruncatedTwo (a b : ℕ) : Type 0 where
  pub low : 0xe0 ≤ a
  pub high : a < 0xf5
  pub second : is_in (second_range a) b ≡ true

pub truncated-two : (a b : ℕ) → is_truncated (a ∷ b ∷ []) ≡ true → TruncatedTwo a b
unfolding is_truncated utf8_rows second_range
truncated-two a b truncated = search (rules, arith)

-- The first three bytes of a sequence of four.
pub record TruncatedThree (a b c : ℕ) : Type 0 where
  pub low : 0xf0 ≤ a
  pub high : a < 0xf5
  pub second : is_in (second_range a) b ≡ true
  pub third : is_in continuation c ≡ true

pub truncated-three : (a b c : ℕ) → is_truncated (a ∷ b ∷ c ∷ []) ≡ true → TruncatedThree a b c
unfolding is_truncated utf8_rows second_range
truncated-three a b c truncated =
    record {
      low = grind (arith, nat_tests);
      high = grind (arith, nat_tests);
      second = grind (arith, nat_tests);
      third = grind (arith, nat_tests);
    }

-- ---- ASCII is a sequence of one byte, and breaks a truncated one

-- No range after the first byte has ASCII.

pub ascii-alone : (b : ℕ) → b < 0x80 → Tests (b ∷ []) true false
ascii-alone b high = tests-ascii b high []

fits_prefix-long : (ranges : List Range) (bytes : List ℕ) → length ranges ≤ length bytes
    → fits_prefix ranges bytes ≡ false
fits_prefix-long [] bytes long = refl
fits_prefix-long (range ∷ ranges) [] long = absurd (omega (arith, long))
fits_prefix-long (range ∷ ranges) (b ∷ bytes) long = and_right _ _ (fits_prefix-long ranges bytes (omega (arith, long)))

-- No sequence of four bytes or more is truncated.
pub truncated-long : (first : ℕ) (rest : List ℕ) → 3 ≤ length rest → is_truncated (first ∷ rest) ≡ false
truncated-long first rest long = elim (first_byte first) [
  | ascii high ↦ (tests-ascii first high rest).is_open
  | lone no_row ↦ (tests-none first no_row rest).is_open
  | of_two low high ↦
      (tests-two first low high rest).is_open ∙ fits_prefix-long (second_range first ∷ []) rest (omega (arith, long))
  | of_three low high ↦
      (tests-three first low high rest).is_open
      ∙ fits_prefix-long (second_range first ∷ continuation ∷ []) rest (omega (arith, long))
  | of_four low high ↦
      (tests-four first low high rest).is_open
      ∙ fits_prefix-long (second_range first ∷ continuation ∷ continuation ∷ []) rest long
]

ascii_after-one : (a b : ℕ) → b < 0x80 → Tests (a ∷ b ∷ []) false false
unfolding is_well_formed is_truncated utf8_rows
ascii_after-one a b high = search (rules, arith)

ascii_after-two : (a c b : ℕ) → b < 0x80 → Tests (a ∷ c ∷ b ∷ []) false false
unfolding is_well_formed is_truncated utf8_rows
ascii_after-two a c b high = search (rules, arith)

ascii_after-three : (a c d b : ℕ) → b < 0x80 → is_well_formed (a ∷ c ∷ d ∷ b ∷ []) ≡ false
unfolding is_well_formed utf8_rows
ascii_after-three a c d b high = grind (arith, nat_tests)

-- A byte of ASCII belongs to no sequence that others began.
pub ascii-breaks : (opened : List ℕ) (b : ℕ) → is_truncated opened ≡ true → b < 0x80
    → Tests (opened ++ b ∷ []) false false
unfolding is_truncated
ascii-breaks [] b truncated high = cc
ascii-breaks (a ∷ []) b truncated high = ascii_after-one a b high
ascii-breaks (a ∷ c ∷ []) b truncated high = ascii_after-two a c b high
ascii-breaks (a ∷ c ∷ d ∷ []) b truncated high = search (rules, arith, ascii_after-three, truncated-long)
ascii-breaks (a ∷ c ∷ d ∷ e ∷ u) b truncated high =
    absurd (false≢true (sym (truncated-long a (c ∷ d ∷ e ∷ u) (omega arith)) ∙ truncated))

-- The well-formed sequences are the encodings of characters, as the standard library has them: by the number of bytes,
-- with division and remainder by 64 on both sides. So the library's texts are those without malformed segments, and a
-- character that is no control is a run.
use Rattle.std.proofs.lemmas.Str.{chars-encodes, encode_ascii, encodes-chars, IsUtf8-append, IsUtf8-encode, IsUtf8-nil, scalars-chars}
use Rattle.vte_core.proofs.Common.{All, All-cons, All-head, All-nil, All-tail, and_from, and_parts, ap, append-nil, append_assoc, arith, Bool, cases_eq, character_event, chars, concat, cut_at_escape, drop, drop_more, encode, encodes, escape, false, false≢true, from_to, get_or, inl, inr, InScalarRange, is_control_character, is_in, is_well_formed, IsRun, IsScalar, IsUtf8, IsUtf8Run, length, List, map, nat_tests, ne_eqb, refl, report, rules, scalar, scalar_of, scalars, second_range, segments, slice_index, StaysInRun, subst, suc, sym, take, text_outcome, true, ℕ, [], ◌++◌, ◌+◌, ◌-◌, ◌<◌, ◌∙◌, ◌∷◌, ◌≡◌, ◌≢◌, ◌≤◌}
use Rattle.vte_core.proofs.lemmas.bytes.Runs.{no_control-stays}
use Rattle.vte_core.proofs.lemmas.bytes.Scalars.{IsContinuation, SecondByte, sequence, well_formed_is_scalar, whole_four, whole_one, whole_three, whole_two}
use Rattle.vte_core.proofs.lemmas.bytes.Utf8.{second_plain, tests-four, tests-three, tests-two}
use Rattle.vte_core.proofs.lemmas.dividing.Division.{all_divided}
use Rattle.vte_core.proofs.lemmas.shapes.FirstSegment.{not_well_formed-nothing, segments-first, text_outcome-well_formed, trailing_count-well_formed}
use Rattle.vte_core.proofs.lemmas.shapes.Outcomes.{report-append}

-- ---- a well-formed sequence is the encoding of its character

encoded-two : (a b : ℕ) → 0xc2 ≤ a → a < 0xe0 → SecondByte a b → encode (scalar_of (a ∷ b ∷ [])) ≡ a ∷ b ∷ []
unfolding encode
encoded-two a b low high second = search (rules, arith)

three_from : (a b c : ℕ) → 0xe0 ≤ a → SecondByte a b → 0x800 ≤ scalar_of (a ∷ b ∷ c ∷ [])
three_from a b c low second = grind (arith, second.not_overlong_three)

encoded-three : (a b c : ℕ) → 0xe0 ≤ a → a < 0xf0 → SecondByte a b → IsContinuation c
    → encode (scalar_of (a ∷ b ∷ c ∷ [])) ≡ a ∷ b ∷ c ∷ []
unfolding encode
encoded-three a b c low high second third = search (rules, arith)

four_from : (a b c d : ℕ) → 0xf0 ≤ a → SecondByte a b → 0x10000 ≤ scalar_of (a ∷ b ∷ c ∷ d ∷ [])
four_from a b c d low second = grind (arith, second.not_overlong_four)

encoded-four : (a b c d : ℕ) → 0xf0 ≤ a → a < 0xf5 → SecondByte a b → IsContinuation c → IsContinuation d
    → encode (scalar_of (a ∷ b ∷ c ∷ d ∷ [])) ≡ a ∷ b ∷ c ∷ d ∷ []
unfolding encode
encoded-four a b c d low high second third fourth = search (rules, arith)

-- A well-formed sequence is the encoding of its character.
pub well_formed_is_encoded : (bytes : List ℕ) → is_well_formed bytes ≡ true → encode (scalar_of bytes) ≡ bytes
well_formed_is_encoded bytes well_formed = elim (sequence bytes well_formed) [
  | whole_one a bytes_are high ↦ rw bytes_are (encode_ascii a high)
  | whole_two a b bytes_are low high second ↦ rw bytes_are (encoded-two a b low high second)
  | whole_three a b c bytes_are low high second third ↦ rw bytes_are (encoded-three a b c low high second third)
  | whole_four a b c d bytes_are low high second third last ↦
      rw bytes_are (encoded-four a b c d low high second third last)
]

-- ---- the encoding of a character is well formed

well_formed-encode : (scalar : ℕ) → InScalarRange scalar → scalar < 0x110000 → is_well_formed (encode scalar) ≡ true
unfolding is_well_formed encode Rattle.vte_core.specs.Utf8.utf8_rows
well_formed-encode scalar range below = search (rules, arith)

in_scalar_range : (scalar : ℕ) → IsScalar scalar → InScalarRange scalar × (scalar < 0x110000)
in_scalar_range scalar is_scalar = search (rules, arith)

-- The encoding of a character is well formed, and has its number.
pub encoded_is_well_formed : (scalar : ℕ) → IsScalar scalar → is_well_formed (encode scalar) ≡ true
encoded_is_well_formed scalar is_scalar =
    let range = in_scalar_range scalar is_scalar in well_formed-encode scalar range.0 range.1

pub scalar_of-encoded : (scalar : ℕ) → IsScalar scalar → scalar_of (encode scalar) ≡ scalar
unfolding encode
scalar_of-encoded scalar is_scalar = search (rules, arith)

-- ---- the segments of a UTF-8 text are the encodings of its characters

segments-well_formed : (bytes following : List ℕ) → is_well_formed bytes ≡ true
    → segments (bytes ++ following) ≡ bytes ∷ segments following
segments-well_formed [] following well_formed = absurd (false≢true (sym not_well_formed-nothing ∙ well_formed))
segments-well_formed (a ∷ bytes) following well_formed =
    segments-first a bytes following (trailing_count-well_formed a bytes following well_formed)

segments-encodes : (characters : List ℕ) → scalars characters ≡ true
    → segments (encodes characters) ≡ map encode characters
segments-encodes [] are_scalars = refl
segments-encodes (c ∷ characters) are_scalars =
    let parts : (scalar c ≡ true) × (scalars characters ≡ true) =
    and_parts (scalar c) (scalars characters) are_scalars in
    segments-well_formed (encode c) (encodes characters) (encoded_is_well_formed c parts.0)
    ∙ ap (λ more. encode c ∷ more) (segments-encodes characters parts.1)

-- The segments of a text of the library are the encodings of its characters.
pub segments_of_text : (text : List ℕ) → IsUtf8 text → segments text ≡ map encode (chars text)
segments_of_text text is_utf8 =
    rw (encodes-chars text is_utf8) at (segments-encodes (chars text) (scalars-chars text is_utf8))

-- The segment is a well-formed sequence (Unicode, table 3-7).
abbrev IsWellFormed : List ℕ → Type 0
IsWellFormed segment = is_well_formed segment ≡ true

concat-well_formed : (those : List (List ℕ)) → All IsWellFormed those → IsUtf8 (concat those)
concat-well_formed [] are_well_formed = IsUtf8-nil
concat-well_formed (segment ∷ more) are_well_formed =
    let well_formed : IsWellFormed segment = All-head IsWellFormed segment more are_well_formed in
    let first : IsUtf8 segment = rw (well_formed_is_encoded segment well_formed)
    at (IsUtf8-encode (scalar_of segment) (well_formed_is_scalar segment well_formed)) in
    IsUtf8-append segment (concat more) first
    (concat-well_formed more (All-tail IsWellFormed segment more are_well_formed))

-- A text without a malformed segment is one of the library.
pub text_of_segments : (text : List ℕ) → All IsWellFormed (segments text) → IsUtf8 text
text_of_segments text are_well_formed = rw (all_divided text) at (concat-well_formed (segments text) are_well_formed)

-- ---- the events of a text of the library

-- Encoded characters at the start of a text give their events, and the text goes on after them.
pub text_outcome-encodes : (characters rest : List ℕ) → scalars characters ≡ true
    → text_outcome (encodes characters ++ rest) ≡ report (map character_event characters) (text_outcome rest)
text_outcome-encodes [] rest are_scalars = refl
text_outcome-encodes (c ∷ characters) rest are_scalars =
    let parts : (scalar c ≡ true) × (scalars characters ≡ true) =
    and_parts (scalar c) (scalars characters) are_scalars in
    ap text_outcome (append_assoc (encode c) (encodes characters) rest)
    ∙ text_outcome-well_formed (encode c) (encodes characters ++ rest) (encoded_is_well_formed c parts.0)
    ∙ ap (λ n. report (character_event n ∷ []) (text_outcome (encodes characters ++ rest)))
    (scalar_of-encoded c parts.0)
    ∙ ap (report (character_event c ∷ [])) (text_outcome-encodes characters rest parts.1)
    ∙ sym (report-append (character_event c ∷ []) (map character_event characters) (text_outcome rest))

-- Bytes without ESC belong to the text before the first ESC.
pub cut-text : (text more : List ℕ) → All (λ b. b ≢ escape) text
    → cut_at_escape (text ++ more)
    ≡ record { text = text ++ (cut_at_escape more).text; bodies = (cut_at_escape more).bodies }
cut-text [] more no_escapes = refl
cut-text (b ∷ text) more no_escapes =
    let other : b ≢ escape = All-head (λ b. b ≢ escape) b text no_escapes in
    rw (ne_eqb b escape other, cut-text text more (All-tail (λ b. b ≢ escape) b text no_escapes)) refl

-- ---- a character that is a run

-- The character has two to four bytes, at the front of some bytes or in a call's input, and is no control.

utf8_run-well_formed : {layout : Bool} (bytes : List ℕ) → is_well_formed bytes ≡ true
    → is_control_character (scalar_of bytes) ≡ false
    → IsUtf8Run layout bytes
utf8_run-well_formed {layout} bytes well_formed plain =
    let c : ℕ = scalar_of bytes in
    let same : encodes (c ∷ []) ≡ bytes = append-nil (encode c) ∙ well_formed_is_encoded bytes well_formed in
    let chars_are : chars bytes ≡ c ∷ [] =
    ap chars (sym same)
    ∙ chars-encodes (c ∷ []) (and_from (scalar c) true (well_formed_is_scalar bytes well_formed) refl) in
    record {
      utf8 = subst IsUtf8 (well_formed_is_encoded bytes well_formed)
          (IsUtf8-encode c (well_formed_is_scalar bytes well_formed));
      plain = subst (All (StaysInRun layout)) (sym chars_are)
          (All-cons (StaysInRun layout) c [] (no_control-stays layout c plain)
          (All-nil (StaysInRun layout)));
    }

-- A well-formed sequence of a lead byte, unless it is C2 and a byte below A0, is a character from A0 on.
past_controls : (b : ℕ) (rest : List ℕ) → 0xc2 ≤ b → (b ≡ 0xc2 → 0xa0 ≤ get_or rest 0 0)
    → is_well_formed (b ∷ rest) ≡ true
    → 0xa0 ≤ scalar_of (b ∷ rest)
past_controls b rest low plain well_formed = elim (sequence (b ∷ rest) well_formed) [
  | whole_one a bytes_are high ↦ absurd (omega (arith, low, high, ap (λ x. get_or x 0 0) bytes_are))
  | whole_two a c bytes_are from_c2 below second ↦ scalar_of-same bytes_are (elim (cases_eq b 0xc2) [
    | inl c2 ↦
        omega (arith, c2, plain c2, ap (λ x. get_or x 0 0) bytes_are, ap (λ x. get_or x 1 0) bytes_are, second.low)
    | inr other ↦ omega (arith, low, other, ap (λ x. get_or x 0 0) bytes_are, second.low)
  ])
  | whole_three a c d bytes_are from_e0 below second third ↦
      scalar_of-same bytes_are (omega (arith, three_from a c d from_e0 second))
  | whole_four a c d e bytes_are from_f0 below second third fourth ↦
      scalar_of-same bytes_are (omega (arith, four_from a c d e from_f0 second))
]
  where
    scalar_of-same : {p : List ℕ} → b ∷ rest ≡ p → 0xa0 ≤ scalar_of p → 0xa0 ≤ scalar_of (b ∷ rest)
    scalar_of-same {p} bytes_are high = subst (λ p. 0xa0 ≤ scalar_of p) (sym bytes_are) high

no_control : (scalar : ℕ) → 0xa0 ≤ scalar → is_control_character scalar ≡ false
no_control scalar low = grind (arith, nat_tests)

-- A character of two bytes or more is a run, unless it is a control.
pub utf8_run-character : {layout : Bool} {b : ℕ} {rest : List ℕ} → 0xc2 ≤ b → (b ≡ 0xc2 → 0xa0 ≤ get_or rest 0 0)
    → is_well_formed (b ∷ rest) ≡ true → IsUtf8Run layout (b ∷ rest)
utf8_run-character {b} {rest} low plain well_formed =
    utf8_run-well_formed (b ∷ rest) well_formed
    (no_control (scalar_of (b ∷ rest)) (past_controls b rest low plain well_formed))

-- ---- the same among other bytes

-- The bytes of the list are those at `from`, past k others.
abbrev AreBytesFrom : List ℕ → ℕ → ℕ → List ℕ → Type 0
AreBytesFrom bytes from k [] = Unit {0}
AreBytesFrom bytes from k (b ∷ rest) =
    (from + k < length bytes) × (b ≡ slice_index bytes (from + k)) × AreBytesFrom bytes from (suc k) rest

bytes_from-take : (bytes : List ℕ) (from k : ℕ) (opened : List ℕ) → AreBytesFrom bytes from k opened
    → take (length opened) (drop (from + k) bytes) ≡ opened
bytes_from-take bytes from k [] are_bytes = refl
bytes_from-take bytes from k (b ∷ opened) are_bytes =
    search (rules, arith, (bytes_from-take bytes from (suc k) opened are_bytes.2), drop_more)

run-from_bytes : {layout : Bool} (bytes : List ℕ) (from b : ℕ) (rest : List ℕ) → from < length bytes
    → b ≡ slice_index bytes from
    → AreBytesFrom bytes from 1 rest
    → 0xc2 ≤ b → (b ≡ 0xc2 → 0xa0 ≤ get_or rest 0 0) → is_well_formed (b ∷ rest) ≡ true
    → IsRun layout bytes from (from + suc (length rest))
run-from_bytes {layout} bytes from b rest before_end is_first are_rest low plain well_formed =
    let same : take (suc (length rest)) (drop from bytes) ≡ b ∷ rest =
    ap (take (suc (length rest))) (drop_more bytes from 0 before_end)
    ∙ ap (λ c. c ∷ take (length rest) (drop (from + 1) bytes)) (sym is_first)
    ∙ ap (λ x. b ∷ x) (bytes_from-take bytes from 1 rest are_rest) in
    subst (λ n. IsUtf8Run layout (take n (drop from bytes)))
    (let equal : suc (length rest) ≡ from + suc (length rest) - from = omega arith in equal)
    (subst (IsUtf8Run layout) (sym same) (utf8_run-character low plain well_formed))

-- The same holds of two, three and four bytes at a position, by the tests of the code.
pub run-two : {layout : Bool} (bytes : List ℕ) (from : ℕ) {first second : ℕ} → from + 2 ≤ length bytes
    → first ≡ slice_index bytes from → second ≡ slice_index bytes (from + 1)
    → 0xc2 ≤ first → first < 0xe0 → is_in (from_to 0x80 0xbf) second ≡ true → (first ≡ 0xc2 → 0xa0 ≤ second)
    → IsRun layout bytes from (from + 2)
run-two bytes from {first} {second} long is_first is_second low high continues plain =
    let range_is : second_range first ≡ from_to 0x80 0xbf =
    second_plain first (λ same. omega (arith, same, high)) (λ same. omega (arith, same, high))
    (λ same. omega (arith, same, high))
    (λ same. omega (arith, same, high)) in
    run-from_bytes bytes from first (second ∷ []) (omega (arith, long)) is_first
    (omega (arith, long), is_second, tt) low plain
    ((tests-two first low high (second ∷ [])).is_whole
    ∙ and_from _ _ (ap (λ r. is_in r second) range_is ∙ continues) refl)

pub run-three : {layout : Bool} (bytes : List ℕ) (from : ℕ) {first second third : ℕ} → from + 3 ≤ length bytes
    → first ≡ slice_index bytes from → second ≡ slice_index bytes (from + 1)
    → third ≡ slice_index bytes (from + 2) → 0xe0 ≤ first → first < 0xf0 → is_in (second_range first) second ≡ true
    → is_in (from_to 0x80 0xbf) third ≡ true → IsRun layout bytes from (from + 3)
run-three bytes from {first} {second} {third} long is_first is_second is_third low high begins continues =
    run-from_bytes bytes from first (second ∷ third ∷ []) (omega (arith, long)) is_first
    (omega (arith, long), is_second, (omega (arith, long), is_third, tt))
    (omega (arith, low)) (λ same. absurd (omega (arith, same, low)))
    ((tests-three first low high (second ∷ third ∷ [])).is_whole ∙ and_from _ _ begins (and_from _ _ continues refl))

pub run-four : {layout : Bool} (bytes : List ℕ) (from : ℕ) {first second third fourth : ℕ} → from + 4 ≤ length bytes
    → first ≡ slice_index bytes from
    → second ≡ slice_index bytes (from + 1) → third ≡ slice_index bytes (from + 2)
    → fourth ≡ slice_index bytes (from + 3) → 0xf0 ≤ first → first < 0xf5
    → is_in (second_range first) second ≡ true → is_in (from_to 0x80 0xbf) third ≡ true
    → is_in (from_to 0x80 0xbf) fourth ≡ true
    → IsRun layout bytes from (from + 4)
run-four bytes from {first} {second} {third} {fourth} long is_first is_second is_third is_fourth low high begins
    continues ends =
    run-from_bytes bytes from first (second ∷ third ∷ fourth ∷ []) (omega (arith, long)) is_first
    (omega (arith, long), is_second, (omega (arith, long), is_third, (omega (arith, long), is_fourth, tt)))
    (omega (arith, low)) (λ same. absurd (omega (arith, same, low)))
    ((tests-four first low high _).is_whole ∙ and_from _ _ begins (and_from _ _ continues (and_from _ _ ends refl)))

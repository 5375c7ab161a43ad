-- The division of a text is Unicode's: the longest segment at each place, and nothing lost. If the rows still allow
-- a byte, a longer segment exists; if they don't, no longer one does.
use Rattle.std.proofs.lemmas.List.{length-take}
use Rattle.vte_core.proofs.Common.{allowed_length, ap, arith, Bool, cases_lt, concat, drop, drop-append_seam, false, false≢true, inl, inr, is_truncated, is_well_formed, length, length-append, length-drop, length-take-le, List, Range, refl, rows_after_byte, rows_after_bytes, rules, segments, segments_after, subst, suc, sym, take, take-append-drop, take-append_seam, trailing_count, true, utf8_rows, zero, ℕ, [], ◌++◌, ◌<◌, ◌∙◌, ◌∷◌, ◌≡◌, ◌≢◌, ◌≤◌}
use Rattle.vte_core.proofs.lemmas.bytes.Utf8.{allowed, allowed_length-none, neither_complete_nor_truncated, rows_after_bytes-none, some_complete, some_truncated, unwanted, wanted}
use Rattle.vte_core.proofs.lemmas.shapes.FirstSegment.{not_well_formed-nothing, trailing_count-well_formed}
use Rattle.vte_core.specs.Division.{AreCorrectSegments, IsCorrectSegment, IsSegment, SegmentsJoin}

-- The segment that starts with b, followed by `bytes`, is the right one.
pub record IsDividedRight (b : ℕ) (bytes : List ℕ) : Type 0 where
  pub within : trailing_count b bytes ≤ length bytes
  pub is_segment : IsSegment (b ∷ take (trailing_count b bytes) bytes)
  -- If a well-formed sequence starts there, it is the segment.
  pub whole : (n : ℕ) → n ≤ length bytes → is_well_formed (b ∷ take n bytes) ≡ true
      → trailing_count b bytes ≡ n
  -- No longer truncated sequence starts there.
  pub longest : (n : ℕ) → n ≤ length bytes → is_truncated (b ∷ take n bytes) ≡ true
      → n ≤ trailing_count b bytes

allowed_length-le : (rows : List (List Range)) (bytes : List ℕ) → allowed_length rows bytes ≤ length bytes
allowed_length-le rows [] = omega arith
allowed_length-le rows (b ∷ bytes) =
    search (rules, arith, (allowed_length-le (rows_after_byte b rows) bytes), allowed, unwanted, wanted)

-- After as many bytes as the rows allow, some row is left.
allowed_length-is_kept : (rows : List (List Range)) (bytes : List ℕ) → rows ≢ []
    → rows_after_bytes (take (allowed_length rows bytes) bytes) rows ≢ []
allowed_length-is_kept rows [] some_row none_left = some_row none_left
allowed_length-is_kept rows (b ∷ bytes) some_row none_left = elim (allowed rows b bytes) [
  | unwanted _ length_is ↦ some_row (is_kept length_is)
  | wanted left length_is ↦ allowed_length-is_kept (rows_after_byte b rows) bytes left (is_kept length_is)
]
  where
    is_kept : {n : ℕ} → allowed_length rows (b ∷ bytes) ≡ n → rows_after_bytes (take n (b ∷ bytes)) rows ≡ []
    is_kept length_is = subst (λ n. rows_after_bytes (take n (b ∷ bytes)) rows ≡ []) length_is none_left

-- After more bytes than the rows allow, no row is left.
allowed_length-longest : (rows : List (List Range)) (bytes : List ℕ) (n : ℕ) → allowed_length rows bytes < n
    → n ≤ length bytes
    → rows_after_bytes (take n bytes) rows ≡ []
allowed_length-longest rows [] n past within = absurd (omega arith)
allowed_length-longest rows (b ∷ bytes) zero past within = absurd (omega arith)
allowed_length-longest rows (b ∷ bytes) (suc n) past within = elim (allowed rows b bytes) [
  | unwanted none_left _ ↦ ap (rows_after_bytes (take n bytes)) none_left ∙ rows_after_bytes-none (take n bytes)
  | wanted _ length_is ↦
      allowed_length-longest (rows_after_byte b rows) bytes n (omega (arith, past, length_is)) (omega (arith, within))
]

is_segment : (b : ℕ) (bytes : List ℕ) → IsSegment (b ∷ take (trailing_count b bytes) bytes)
unfolding is_well_formed is_truncated trailing_count
is_segment b bytes = by_rows (rows_after_byte b utf8_rows) refl
  where
    segment : List (List Range) → List ℕ
    segment rows = take (allowed_length rows bytes) bytes

    by_tests : {rows : List (List Range)} → rows_after_byte b utf8_rows ≡ rows → (well_formed truncated : Bool)
        → some_complete (rows_after_bytes (segment rows) rows) ≡ well_formed
        → some_truncated (rows_after_bytes (segment rows) rows) ≡ truncated
        → (rows_after_bytes (segment rows) rows ≡ [] → ⊥) → IsSegment (b ∷ segment (rows_after_byte b utf8_rows))
    by_tests {rows} same true truncated is_whole is_open is_kept =
        inl (ap (λ (rows : List (List Range)). some_complete (rows_after_bytes (segment rows) rows)) same ∙ is_whole)
    by_tests {rows} same false true is_whole is_open is_kept =
        inr (inl (ap (λ (rows : List (List Range)). some_truncated (rows_after_bytes (segment rows) rows)) same
        ∙ is_open))
    by_tests same false false is_whole is_open is_kept =
        absurd (is_kept (neither_complete_nor_truncated _ is_whole is_open))

    by_rows : (rows : List (List Range)) → rows_after_byte b utf8_rows ≡ rows
        → IsSegment (b ∷ segment (rows_after_byte b utf8_rows))
    by_rows [] same = inr (inr (
        ap (λ (rows : List (List Range)). length (b ∷ segment rows)) same
        ∙ ap (λ (n : ℕ). length (b ∷ take n bytes)) (allowed_length-none bytes)))
    by_rows (row ∷ more) same =
        by_tests same _ _ refl refl (allowed_length-is_kept (row ∷ more) bytes (λ same. cc))

divided_right : (b : ℕ) (bytes : List ℕ) → IsDividedRight b bytes
unfolding is_truncated trailing_count
divided_right b bytes = record {
  within = allowed_length-le (rows_after_byte b utf8_rows) bytes;
  is_segment = is_segment b bytes;
  whole =
      λ n within well_formed. rw (take-append-drop n bytes) at
      (trailing_count-well_formed b (take n bytes) (drop n bytes) well_formed)
      ∙ length-take-le n bytes within;
  longest = λ n within truncated. elim (cases_lt (trailing_count b bytes) n) [
    | inl past ↦
        let none_left = allowed_length-longest (rows_after_byte b utf8_rows) bytes n past within in
        absurd (false≢true (sym (ap some_truncated none_left) ∙ truncated))
    | inr reaches ↦ reaches
  ];
}

concat-segments_after : (skip : ℕ) (bytes : List ℕ) → concat (segments_after skip bytes) ≡ drop skip bytes
concat-segments_after zero [] = refl
concat-segments_after (suc skip) [] = refl
concat-segments_after (suc skip) (b ∷ bytes) = concat-segments_after skip bytes
concat-segments_after zero (b ∷ bytes) =
    search (rules, arith, (concat-segments_after (trailing_count b bytes) bytes), take-append-drop)

-- The division loses no byte.
pub all_divided : (text : List ℕ) → SegmentsJoin text
all_divided text = concat-segments_after 0 text

-- ---- the right segments

-- The segments are the right ones, each at its place, and no other division has only right ones: of two right
-- segments before one text neither is longer. By induction over the segments.

segments_after-drop : (skip : ℕ) (bytes : List ℕ) → segments_after skip bytes ≡ segments (drop skip bytes)
segments_after-drop zero bytes = refl
segments_after-drop (suc skip) [] = refl
segments_after-drop (suc skip) (b ∷ bytes) = segments_after-drop skip bytes

-- A prefix of the bytes is what `take` gives for its length.
prefix_of : (prefix rest bytes : List ℕ) → prefix ++ rest ≡ bytes
    → (prefix ≡ take (length prefix) bytes) × (length prefix ≤ length bytes)
prefix_of prefix rest bytes same =
    rw (← same) (sym (take-append_seam prefix rest), omega (arith, length-append prefix rest))

whole_is_segment : (b : ℕ) (bytes : List ℕ) → IsDividedRight b bytes → (prefix rest : List ℕ)
    → prefix ++ rest ≡ b ∷ bytes → is_well_formed prefix ≡ true → prefix ≡ b ∷ take (trailing_count b bytes) bytes
whole_is_segment b bytes divided [] rest same well_formed =
    absurd (false≢true (sym not_well_formed-nothing ∙ well_formed))
whole_is_segment b bytes divided (a ∷ tail) rest same well_formed =
    let first : a ≡ b = cc in
    let later : tail ++ rest ≡ bytes = cc in
    let prefix = prefix_of tail rest bytes later in
    let is_kept : is_well_formed (b ∷ take (length tail) bytes) ≡ true = rw (← prefix.0, ← first) well_formed in
    let counts : trailing_count b bytes ≡ length tail = divided.whole (length tail) prefix.1 is_kept in
    rw (counts, ← prefix.0, first) refl

truncated_is_shorter : (b : ℕ) (bytes : List ℕ) → IsDividedRight b bytes → (prefix rest : List ℕ)
    → prefix ++ rest ≡ b ∷ bytes
    → is_truncated prefix ≡ true → length prefix ≤ length (b ∷ take (trailing_count b bytes) bytes)
truncated_is_shorter b bytes divided [] rest same truncated = omega arith
truncated_is_shorter b bytes divided (a ∷ tail) rest same truncated =
    let first : a ≡ b = cc in
    let later : tail ++ rest ≡ bytes = cc in
    let prefix = prefix_of tail rest bytes later in
    let is_kept : is_truncated (b ∷ take (length tail) bytes) ≡ true = rw (← prefix.0, ← first) truncated in
    let at_least : length tail ≤ trailing_count b bytes = divided.longest (length tail) prefix.1 is_kept in
    omega (arith, length-take (trailing_count b bytes) bytes)

right_segment : (b : ℕ) (bytes : List ℕ)
    → IsCorrectSegment (b ∷ take (trailing_count b bytes) bytes) (drop (trailing_count b bytes) bytes)
right_segment b bytes =
    search (rules, arith, divided_right, take-append-drop, is_segment, whole_is_segment, truncated_is_shorter)

right_segments : (n : ℕ) (text : List ℕ) → length text ≤ n → AreCorrectSegments (segments text)
right_segments n [] short = tt
right_segments zero (b ∷ bytes) short = absurd (omega arith)
right_segments (suc n) (b ∷ bytes) short =
    let shorter : length (drop (trailing_count b bytes) bytes) ≤ n =
    omega (arith, length-drop (trailing_count b bytes) bytes) in (
      rw (concat-segments_after (trailing_count b bytes) bytes) (right_segment b bytes),
      rw (segments_after-drop (trailing_count b bytes) bytes)
          (right_segments n (drop (trailing_count b bytes) bytes) shorter),
    )

-- Each of its segments is the right one.
pub are_right_segments : (text : List ℕ) → AreCorrectSegments (segments text)
are_right_segments text = right_segments (length text) text (omega arith)

-- ---- and there is no other division

segment-nonempty : (segment : List ℕ) → IsSegment segment → 0 < length segment
unfolding is_truncated
segment-nonempty [] (inl well_formed) = absurd (false≢true (sym not_well_formed-nothing ∙ well_formed))
segment-nonempty [] (inr (inl truncated)) = absurd (false≢true truncated)
segment-nonempty [] (inr (inr lone)) = absurd (omega arith)
segment-nonempty (b ∷ segment) segment_is = omega arith

-- Of two right segments at the start of one text, neither is longer.
segment-not_longer : {segment rest other other_rest : List ℕ} → segment ++ rest ≡ other ++ other_rest
    → IsCorrectSegment segment rest → IsCorrectSegment other other_rest
    → length segment ≤ length other
segment-not_longer {segment} {rest} {other} same is_right other_is_right = search (rules, arith, segment-nonempty)

same_prefix : {segment rest other other_rest : List ℕ} → segment ++ rest ≡ other ++ other_rest
    → length segment ≡ length other → (segment ≡ other) × (rest ≡ other_rest)
same_prefix {segment} {rest} {other} {other_rest} same long =
    let prefix : take (length segment) (segment ++ rest) ≡ segment = take-append_seam segment rest in
    let later : drop (length segment) (segment ++ rest) ≡ rest = drop-append_seam segment rest in (
      sym prefix ∙ rw (same, long) (take-append_seam other other_rest),
      sym later ∙ rw (same, long) (drop-append_seam other other_rest),
    )

one_division : (these those : List (List ℕ)) → AreCorrectSegments these → AreCorrectSegments those
    → concat these ≡ concat those
    → these ≡ those
one_division [] [] are_right others_are_right same = refl
one_division [] (q ∷ those) are_right others_are_right same =
    let some_bytes = segment-nonempty q others_are_right.0.is_segment in
    absurd (omega (arith, some_bytes, length-append q (concat those), ap length same))
one_division (p ∷ these) [] are_right others_are_right same =
    let some_bytes = segment-nonempty p are_right.0.is_segment in
    absurd (omega (arith, some_bytes, length-append p (concat these), ap length same))
one_division (p ∷ these) (q ∷ those) are_right others_are_right same =
    let le = segment-not_longer same are_right.0 others_are_right.0 in
    let ge : length q ≤ length p = segment-not_longer (sym same) others_are_right.0 are_right.0 in
    let long : length p ≡ length q = omega arith in
    let parts = same_prefix same long in
    let rest = one_division these those are_right.1 others_are_right.1 parts.1 in
    let first : p ≡ q = parts.0 in
    cc

-- No other division has right segments alone.
pub only_division : (all : List (List ℕ)) → AreCorrectSegments all → segments (concat all) ≡ all
only_division all are_right =
    one_division (segments (concat all)) all (are_right_segments (concat all)) are_right
    (all_divided (concat all))

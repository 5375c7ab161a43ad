-- The right division of a text: each segment is the well-formed sequence that starts there; failing
-- that, the longest truncated one; failing that, one byte.
use Rattle.std.specs.List.{concat}
use Rattle.std.specs.Prelude.{length, List, true, ℕ, [], ⊤, ◌++◌, ◌∷◌, ◌≡◌, ◌≤◌, ◌⊎◌}
use Rattle.vte_core.specs.Utf8.{is_truncated, is_well_formed, segments}

-- Any byte may be a segment by itself. `IsCorrectSegment` says when it is one.
abbrev pub IsSegment : List ℕ → Type 0
IsSegment segment =
    (is_well_formed segment ≡ true) ⊎ ((is_truncated segment ≡ true) ⊎ (length segment ≡ 1))

-- The segments join to the text.
abbrev pub SegmentsJoin : List ℕ → Type 0
SegmentsJoin text = concat (segments text) ≡ text

-- The segment is the right one if `later` follows it.
pub record IsCorrectSegment (segment later : List ℕ) : Type 0 where
  pub is_segment : IsSegment segment
  -- If a well-formed sequence starts there, it is the segment.
  pub whole : (prefix rest : List ℕ) → prefix ++ rest ≡ segment ++ later
      → is_well_formed prefix ≡ true → prefix ≡ segment
  -- No longer truncated sequence starts there.
  pub longest : (prefix rest : List ℕ) → prefix ++ rest ≡ segment ++ later
      → is_truncated prefix ≡ true → length prefix ≤ length segment

-- Each segment is the right one if the others follow it.
abbrev pub AreCorrectSegments : List (List ℕ) → Type 0
AreCorrectSegments [] = ⊤
AreCorrectSegments (segment ∷ more) =
    IsCorrectSegment segment (concat more) × AreCorrectSegments more

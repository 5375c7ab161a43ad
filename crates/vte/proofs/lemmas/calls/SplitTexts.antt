-- Parts of a text: the first one ends at the first separator, and a text without one is its own part.
use Rattle.std.specs.List.{position_or_len, slice_split}
use Rattle.vte.proofs.Common.{arith, Bool, Bor, drop, fails_before_first, length, List, None, Option, slice_split_first, slice_split_none, Some, sym, take, ℕ, [], ◌+◌, ◌<◌, ◌∷◌, ◌≡◌}

-- A text without a separator is split into one part.
pub split-whole : (splits : ℕ → Bool) (text : List ℕ) → position_or_len splits text ≡ length text
    → slice_split splits text ≡ text ∷ []
split-whole splits text no_separator =
    slice_split_none splits text (λ k d inside. fails_before_first splits text k d (omega (arith, no_separator)))

-- The first part ends before the first separator, and what follows this is split into the others.
pub split-first : (splits : ℕ → Bool) (text : List ℕ) {i : ℕ} → position_or_len splits text ≡ i → i < length text
    → slice_split splits text ≡ take i text ∷ slice_split splits (drop (i + 1) text)
split-first splits text position_is inside =
    rw (sym position_is) (slice_split_first splits text 0 (omega (arith, position_is)))

-- The size of what is left to split, which gets smaller with each part.
abbrev pub left_size : Option (Bor (List ℕ)) → ℕ
left_size None = 0
left_size (Some text) = length text.now + 1

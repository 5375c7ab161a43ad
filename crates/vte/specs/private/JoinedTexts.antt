-- The texts of a command, as they are split and joined, and whether what is joined fits the buffer
-- for texts: 1,040 bytes if the parser keeps 1,024, since there are at most 16 pieces.
use Rattle.std.specs.Borrow.{Bor}
use Rattle.std.specs.List.{concat}
use Rattle.std.specs.Prelude.{Bool, false, length, List, nat_le, None, Option, Some, true, ℕ, [], ◌+◌, ◌∷◌, ◌≤◌}
use Rattle.vte.specs.Split.{split_by}

-- The parts of what is left, if anything is.
abbrev pub parts_left : ℕ → Option (Bor (List ℕ)) → List (List ℕ)
parts_left separator None = []
parts_left separator (Some text) = split_by separator text.now

-- What is added for a text: `;` and the text, or of the first the text alone.
abbrev pub text_to_join : Bool → List ℕ → List ℕ
text_to_join true text = text
text_to_join false text = 0x3b ∷ text

-- All bytes, and a separator for each piece.
abbrev pub joined_size : List (List ℕ) → ℕ
joined_size pieces = length (concat pieces) + length pieces

-- A buffer of this size has room for all pieces joined.
abbrev pub FitsTextCapacity : ℕ → List (List ℕ) → Type 0
FitsTextCapacity text_capacity pieces = joined_size pieces ≤ text_capacity

-- The test of `FitsTextCapacity`.
abbrev pub fits_text_capacity : ℕ → List (List ℕ) → Bool
fits_text_capacity text_capacity pieces = nat_le (joined_size pieces) text_capacity

-- The groups of `Params`, stored flat: all numbers in one list and, once a number has joined a
-- group, the length of each group.
use Rattle.std.specs.Prelude.{All, drop, length, List, replicate, sum, take, ℕ, [], ◌<◌, ◌∷◌, ◌≡◌, ◌≤◌}
use Rattle.vte_core.specs.Parameters.{greatest_number, max_numbers}

-- The numbers, cut into groups of these lengths.
abbrev pub cut_by_lengths : List ℕ → List ℕ → List (List ℕ)
cut_by_lengths [] numbers = []
cut_by_lengths (n ∷ lengths) numbers = take n numbers ∷ cut_by_lengths lengths (drop n numbers)

-- The lengths of the groups of this many numbers. If none are stored, each number is a group of its
-- own.
abbrev pub lengths_of : List ℕ → ℕ → List ℕ
lengths_of [] count = replicate count 1
lengths_of (n ∷ lengths) count = n ∷ lengths

-- The groups that are stored as these lengths and numbers.
abbrev pub stored_groups : List ℕ → List ℕ → List (List ℕ)
stored_groups lengths numbers = cut_by_lengths (lengths_of lengths (length numbers)) numbers

-- The lengths cover all numbers, and no group is empty.
pub record AreLengths (lengths numbers : List ℕ) : Type 0 where
  pub sum_is : sum lengths ≡ length numbers
  pub filled : All (λ n. 0 < n) lengths

-- Stored lengths fit the numbers.
pub record AreStoredLengths (lengths numbers : List ℕ) : Type 0 where
  pub fit : AreLengths (lengths_of lengths (length numbers)) numbers

-- The lengths and numbers of a `Params`: each number is up to 65,535.
pub record AreFlatGroups (lengths numbers : List ℕ) : Type 0 where
  pub lengths_fit : AreStoredLengths lengths numbers
  pub small : All (λ number. number ≤ greatest_number) numbers

-- The groups are stored as these lengths and numbers, at most 32 of each.
pub record AreRawParts (lengths numbers : List ℕ) (groups : List (List ℕ)) : Type 0 where
  pub stored : AreFlatGroups lengths numbers
  pub cut : groups ≡ stored_groups lengths numbers
  pub few_groups : length lengths ≤ max_numbers
  pub few_numbers : length numbers ≤ max_numbers

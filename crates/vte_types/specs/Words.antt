-- Tables: rows that start with a number, and words with what they stand for.
use Rattle.std.specs.Prelude.{bytes_eq, if◌then◌else◌, List, None, Option, Some, ℕ, [], ◌==◌, ◌∷◌}

-- A number, and what it stands for.
abbrev pub Row : Type 0 → Type 0
Row A = ℕ × A

-- The entry of a number in a table.
abbrev pub entry_of : {A : Type 0} → List (Row A) → ℕ → Option A
entry_of [] number = None
entry_of (row ∷ rows) number = if number == row.0 then Some row.1 else entry_of rows number

-- The entry of a word in a table.
abbrev pub entry_of_word : {A : Type 0} → List (List ℕ × A) → List ℕ → Option A
entry_of_word [] text = None
entry_of_word (row ∷ rows) text =
    if bytes_eq text row.0 then Some row.1 else entry_of_word rows text

-- What follows a word at the start of the text.
abbrev pub after_word : List ℕ → List ℕ → Option (List ℕ)
after_word [] text = Some text
after_word (a ∷ word) [] = None
after_word (a ∷ word) (b ∷ text) = if a == b then after_word word text else None

-- The result of reading the rest, or else the other.
abbrev pub read_or : {A : Type 0} → (List ℕ → Option A) → Option A → Option (List ℕ) → Option A
read_or read other (Some rest) = read rest
read_or read other None = other

-- The result of the first form whose word starts the text.
abbrev pub read_by : {A : Type 0} → List (List ℕ × (List ℕ → Option A)) → List ℕ → Option A
read_by [] text = None
read_by (form ∷ forms) text = read_or form.1 (read_by forms text) (after_word form.0 text)

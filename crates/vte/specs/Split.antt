-- Prefixes of texts, and parts between separators.
use Rattle.std.specs.List.{slice_split}
use Rattle.std.specs.Option.{option_or}
use Rattle.std.specs.Prelude.{List, None, Option, ℕ, [], ◌==◌, ◌∷◌}
use Rattle.vte_types.specs.Words.{after_word}

-- What follows `word` in the first text that starts with it.
abbrev pub first_after : List ℕ → List (List ℕ) → Option (List ℕ)
first_after word [] = None
first_after word (text ∷ texts) = option_or (after_word word text) (first_after word texts)

-- The parts of a text between separators.
abbrev pub split_by : ℕ → List ℕ → List (List ℕ)
split_by separator text = slice_split (λ b. b == separator) text

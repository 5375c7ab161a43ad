-- The intermediates that a dispatch reports (the VT500 parser collects two).
use Rattle.std.specs.Prelude.{Bool, length, List, nat_lt, take, ℕ}

-- How many intermediates of a sequence are kept.
abbrev pub max_intermediates : ℕ
max_intermediates = 2

-- The intermediates that are kept.
abbrev pub kept_intermediates : List ℕ → List ℕ
kept_intermediates intermediates = take max_intermediates intermediates

-- There are more than two.
abbrev pub are_too_many : List ℕ → Bool
are_too_many intermediates = nat_lt max_intermediates (length intermediates)

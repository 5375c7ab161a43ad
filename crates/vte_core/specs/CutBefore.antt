-- A list of bytes, cut before the first byte that passes a test.
use Rattle.std.specs.Prelude.{Bool, if◌then◌else◌, List, ℕ, [], ◌∷◌}

-- The bytes before the first that passes, or all bytes if none does.
abbrev pub before_first : (ℕ → Bool) → List ℕ → List ℕ
before_first passes [] = []
before_first passes (b ∷ bytes) = if passes b then [] else b ∷ before_first passes bytes

-- The first byte that passes and all that follow, or none.
abbrev pub from_first : (ℕ → Bool) → List ℕ → List ℕ
from_first passes [] = []
from_first passes (b ∷ bytes) = if passes b then b ∷ bytes else from_first passes bytes

-- Both parts.
pub record CutInTwo : Type 0 where
  pub before : List ℕ
  pub rest : List ℕ

-- The byte that passes, if any, is the first of the rest.
abbrev pub cut_before : (ℕ → Bool) → List ℕ → CutInTwo
cut_before passes bytes =
    record { before = before_first passes bytes; rest = from_first passes bytes }

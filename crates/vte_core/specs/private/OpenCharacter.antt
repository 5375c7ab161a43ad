-- A character whose bytes come one at a time.
use Rattle.std.specs.Prelude.{Bool, false, if◌then◌else◌, List, true, ℕ, [], ◌++◌, ◌<◌, ◌==◌, ◌∷◌, ◌≡◌, ◌≤◌}
use Rattle.vte_core.specs.declared.utf8.Extension.{Extension}
use Rattle.vte_core.specs.declared.utf8.Extension.TheVariants.{Malformed, Truncated, WellFormed}
use Rattle.vte_core.specs.declared.utf8.OpenCharacter.{OpenCharacter}
use Rattle.vte_core.specs.declared.utf8.OpenCharacter.TheVariants.{Empty, One, Three, Two}
use Rattle.vte_core.specs.Utf8.{from_to, is_truncated, is_well_formed, Range, scalar_of}

-- The bytes of a character that were read.
abbrev pub bytes_of : OpenCharacter → List ℕ
bytes_of Empty = []
bytes_of (One a) = a ∷ []
bytes_of (Two a b) = a ∷ b ∷ []
bytes_of (Three a b c) = a ∷ b ∷ c ∷ []

-- More bytes can complete a character.
abbrev pub may_continue : List ℕ → Bool
may_continue [] = true
may_continue (b ∷ bytes) = is_truncated (b ∷ bytes)

-- What one more byte makes of the open bytes.
abbrev pub Extends : List ℕ → ℕ → Extension → Type 0
Extends u b (Truncated v) = (bytes_of v ≡ u ++ b ∷ []) × (is_truncated (bytes_of v) ≡ true)
Extends u b (WellFormed c) = (is_well_formed (u ++ b ∷ []) ≡ true) × (c ≡ scalar_of (u ++ b ∷ []))
Extends u b Malformed =
    (is_well_formed (u ++ b ∷ []) ≡ false) × (is_truncated (u ++ b ∷ []) ≡ false)

-- The first byte of a sequence of two bytes or more.
pub record IsLead (b : ℕ) : Type 0 where
  pub low : 0xc2 ≤ b
  pub high : b < 0xf5

-- The first byte of a sequence of two bytes.
pub record BeginsTwo (b : ℕ) : Type 0 where
  pub low : 0xc2 ≤ b
  pub high : b < 0xe0

-- The first byte of a sequence of three bytes.
pub record BeginsThree (b : ℕ) : Type 0 where
  pub low : 0xe0 ≤ b
  pub high : b < 0xf0

-- The first byte of a sequence of four bytes.
pub record BeginsFour (b : ℕ) : Type 0 where
  pub low : 0xf0 ≤ b
  pub high : b < 0xf5

-- The second bytes that table 3-7 allows after a first byte of two or more.
unfoldable pub second_range : ℕ → Range
second_range a =
    if a == 0xe0 then from_to 0xa0 0xbf
    else if a == 0xed then from_to 0x80 0x9f
    else if a == 0xf0 then from_to 0x90 0xbf
    else if a == 0xf4 then from_to 0x80 0x8f
    else from_to 0x80 0xbf

-- What a timeout means, and when it is steady.
use Rattle.std.specs.Prelude.{Bool, false, true, ℕ, ◌≡◌}

-- The value after it is set for this many nanoseconds and after it is cleared, and the answers that
-- a value allows.
pub record TimeoutMeaning (W : Type 0) : Type 1 where
  pub set : W → ℕ → W
  pub clear : W → W
  pub allows : W → Bool → Type 0

-- The meaning that the ghost members of a `Timeout` give.
abbrev pub timeout_meaning : {W : Type 0} → (W → ℕ → W) → (W → W) → (W → Bool → Type 0)
    → TimeoutMeaning W
timeout_meaning set clear allows = record { set = set; clear = clear; allows = allows }

-- The value allows only this answer.
abbrev pub AllowsOnly : {W : Type 0} → TimeoutMeaning W → W → Bool → Type 0
AllowsOnly meaning value pending =
    meaning.allows value pending × ((other : Bool) → meaning.allows value other → other ≡ pending)

-- A steady timeout is pending from when it is set until it is cleared, no matter what a clock
-- shows.
pub record IsSteady {W : Type 0} (meaning : TimeoutMeaning W) : Type 0 where
  pub set : (value : W) (nanos : ℕ) → AllowsOnly meaning (meaning.set value nanos) true
  pub clear : (value : W) → AllowsOnly meaning (meaning.clear value) false

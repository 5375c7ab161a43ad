-- A timeout over a clock is pending from when it is set until it is cleared.
use Rattle.std.specs.declared.time.Duration.{Duration}
use Rattle.std.specs.Duration.{as_nanos, max_nanos}
use Rattle.std.specs.Prelude.{Bool, false, is_some, min, Option, true, ℕ, ◌+◌, ◌≡◌}
use Rattle.vte.specs.declared.ansi.std_sync_handler.StdSyncHandler.{StdSyncHandler}
use Rattle.vte_handler.specs.Timeout.{TimeoutMeaning}

-- The clock that the timeout reads.
abbrev pub clock_in : {C : Type 0} → StdSyncHandler C → C
clock_in timeout = timeout.clock

-- The time at which the timeout expires, or `None` if it isn't pending.
abbrev pub expiry_in : {C : Type 0} → StdSyncHandler C → Option Duration
expiry_in timeout = timeout.expiry

-- The value of a timeout over a clock: whether it is pending.
abbrev pub is_pending : {C : Type 0} → StdSyncHandler C → Bool
is_pending timeout = is_some timeout.expiry

-- The clock doesn't matter: the caller decides when an update has expired.
abbrev pub pending_meaning : TimeoutMeaning Bool
pending_meaning =
    record {
      set = λ value nanos. true;
      clear = λ value. false;
      allows = λ value pending. pending ≡ value;
    }

-- The expiry is a moment that the clock tells plus this many nanoseconds, at most the greatest
-- `Duration`.
pub record ExpiresAfter {Clock : Type 0} (tells : Clock → ℕ → Type 0) (clock : Clock) (nanos : ℕ)
    (expiry : Duration) : Type 0 where
  pub moment : ℕ
  pub shown : tells clock moment
  pub sum : as_nanos expiry ≡ min (moment + nanos) max_nanos

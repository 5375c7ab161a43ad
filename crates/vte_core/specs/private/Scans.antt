-- How far a search in a call's bytes goes, and how few looks it takes.
use Rattle.std.specs.Prelude.{drop, length, List, min, slice_index, take, ℕ, ◌+◌, ◌<◌, ◌≡◌, ◌≤◌}
use Rattle.vte_core.specs.declared.reader.Reader.{Reader}
use Rattle.vte_core.specs.declared.reader.Window.{Window}
use Rattle.vte_core.specs.Looks.{looks_of}
use Rattle.vte_core.specs.private.Runs.{Each}

-- The positions are in order, and within the bytes.
pub record ArePositions (bytes : List ℕ) (from to : ℕ) : Type 0 where
  pub in_order : from ≤ to
  pub within : to ≤ length bytes

-- A search from one position ends at another, takes at least one look for each byte between, and
-- has found out what these are.
pub record Scans (Holds : List ℕ → ℕ → ℕ → Type 0) (bytes : List ℕ) (from to : ℕ)
    (old_reader new_reader : Reader) : Type 0 where
  pub in_order : from ≤ to
  pub within : to ≤ length bytes
  pub passed : Holds bytes from to
  pub looks_at_least : looks_of old_reader + to ≤ looks_of new_reader + from

-- A search from one position ends at another: at the first byte of which `Holds` isn't true, or at
-- the end of the bytes. It looks once at each byte up to there, and at the byte there.
pub record FindsEnd (Holds : ℕ → Type 0) (bytes : List ℕ) (from to : ℕ)
    (old_reader new_reader : Reader) : Type 0 where
  pub in_order : from ≤ to
  pub within : to ≤ length bytes
  pub passed : Each Holds bytes from to
  pub ended : to < length bytes → Holds (slice_index bytes to) → ⊥
  pub looks : looks_of new_reader + from ≡ looks_of old_reader + min (to + 1) (length bytes)

-- The count of looks grew by at most `most`.
pub record LooksWithin (most : ℕ) (old_reader new_reader : Reader) : Type 0 where
  pub looks_at_most : looks_of new_reader ≤ looks_of old_reader + most
  pub looks_at_least : looks_of old_reader ≤ looks_of new_reader

-- The window has the bytes from a position on.
pub record IsWindow (bytes : List ℕ) (from : ℕ) (window : Window) : Type 0 where
  pub within : from + 19 ≤ length bytes
  pub three_back : window.three_back ≡ take 16 (drop from bytes)
  pub two_back : window.two_back ≡ take 16 (drop (from + 1) bytes)
  pub one_back : window.one_back ≡ take 16 (drop (from + 2) bytes)
  pub current : window.current ≡ take 16 (drop (from + 3) bytes)

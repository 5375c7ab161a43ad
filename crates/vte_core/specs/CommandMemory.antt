-- What is stored of an operating system command, and when memory doesn't suffice for it.
use Rattle.std.specs.Prelude.{Bool, length, List, slice_index, ℕ, ◌+◌, ◌-◌, ◌<◌, ◌≤◌}
use Rattle.vte_core.specs.SystemCommand.{IsCommandData}

-- The capacity for data bytes, the data bytes, where the first 16 pieces end, and whether data
-- bytes were dropped.
pub record StoredCommand : Type 0 where
  pub capacity : ℕ
  pub bytes : List ℕ
  pub ends : List ℕ
  pub lost : Bool

-- The memory doesn't suffice for what is stored and the data bytes that begin at `from`.
pub record LacksMemoryAt (stored : StoredCommand) (bytes : List ℕ) (from : ℕ) : Type 0 where
  pub to : ℕ
  pub within : to ≤ length bytes
  pub are_data : (k : ℕ) → from ≤ k → k < to → IsCommandData (slice_index bytes k)
  pub lacks_memory : stored.capacity < length stored.bytes + (to - from)

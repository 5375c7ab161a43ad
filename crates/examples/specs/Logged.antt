-- The bytes that a text is known to hold.
use Rattle.std.specs.Prelude.{Bool, if◌then◌else◌, List, None, Option, Some, ℕ}

-- The bytes, unless memory was refused.
abbrev pub bytes_unless : Bool → List ℕ → Option (List ℕ)
bytes_unless refused bytes = if refused then None else Some bytes

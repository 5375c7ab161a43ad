-- Whether the bell has rung.
use Rattle.std.specs.Prelude.{Bool, true, ℕ, ◌==◌, ◌||◌}
use Rattle.vte_core.specs.Event.{Event, Execute}

-- The answer after one more event.
abbrev pub rung_after : Bool → Event → Bool
rung_after has_rung (Execute byte) = has_rung || (byte == 0x07)
rung_after has_rung event = has_rung

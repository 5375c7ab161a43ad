-- Whether a character was printed.
use Rattle.std.specs.Prelude.{Bool, true}
use Rattle.vte_core.specs.Event.{Event, Print}

-- The answer after one more event.
abbrev pub seen_after : Bool → Event → Bool
seen_after seen (Print c) = true
seen_after seen event = seen

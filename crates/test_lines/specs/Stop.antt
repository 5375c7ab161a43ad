-- When a performer that writes lines asks for an early stop.
use Rattle.std.specs.Prelude.{Bool, false, suc, true, zero}
use Rattle.test_lines.specs.declared.event_lines.Stop.{Stop}
use Rattle.test_lines.specs.declared.event_lines.Stop.TheVariants.{After, AtEscape, AtPrint, Reached}
use Rattle.vte_core.specs.Event.{EscDispatch, Event, Print}

-- One event closer to the stop.
abbrev pub after_event : Stop → Stop
after_event (After zero) = Reached
after_event (After (suc left)) = After left
after_event stop = stop

-- A character reaches a stop at `print`, and brings any other one event closer.
abbrev pub after_print : Stop → Stop
after_print AtPrint = Reached
after_print stop = after_event stop

-- The same for an escape sequence and a stop at `esc_dispatch`.
abbrev pub after_escape : Stop → Stop
after_escape AtEscape = Reached
after_escape stop = after_event stop

-- What remains of the stop after an event.
abbrev pub stop_after : Stop → Event → Stop
stop_after stop (Print c) = after_print stop
stop_after stop (EscDispatch intermediates ignore byte) = after_escape stop
stop_after stop event = after_event stop

-- The performer asks for the stop now.
abbrev pub is_reached : Stop → Bool
is_reached Reached = true
is_reached stop = false

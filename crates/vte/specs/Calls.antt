-- The calls of events.
use Rattle.std.specs.Prelude.{Bool, drop, false, length, List, None, Option, Some, true, ℕ, [], ◌++◌, ◌∷◌}
use Rattle.vte.specs.CommandCalls.{system_command_calls}
use Rattle.vte.specs.ControlSequenceCalls.{control_sequence_calls}
use Rattle.vte.specs.EscapeCalls.{escape_calls, execute_calls}
use Rattle.vte_core.specs.Event.{CsiDispatch, EscDispatch, Event, Execute, OscDispatch, Print}
use Rattle.vte_handler.specs.Call.{Call}
use Rattle.vte_handler.specs.Call as call

-- A control sequence that is ignored makes no call.
abbrev pub sequence_calls : Option ℕ → List (List ℕ) → List ℕ → Bool → ℕ → List Call
sequence_calls last groups intermediates true final = []
sequence_calls last groups intermediates false final =
    control_sequence_calls last groups intermediates final

-- The calls of an event, given the last printed character before it.
abbrev pub calls_of : Option ℕ → Event → List Call
calls_of last (Print c) = call.Input c ∷ []
calls_of last (Execute byte) = execute_calls byte
calls_of last (CsiDispatch groups intermediates ignore final) =
    sequence_calls last groups intermediates ignore final
calls_of last (EscDispatch intermediates ignore byte) = escape_calls intermediates byte
calls_of last (OscDispatch pieces bell) = system_command_calls pieces bell
calls_of last _ = []

-- The last printed character after an event.
abbrev pub last_printed_after : Option ℕ → Event → Option ℕ
last_printed_after last (Print c) = Some c
last_printed_after last _ = last

-- The same after a list of events.
abbrev pub last_printed_from : Option ℕ → List Event → Option ℕ
last_printed_from last [] = last
last_printed_from last (event ∷ events) = last_printed_from (last_printed_after last event) events

-- The character of the last `Print` among the events.
abbrev pub last_printed : List Event → Option ℕ
last_printed events = last_printed_from None events

-- Each event takes the last printed character that those before it leave, for REP.
abbrev pub calls_from : Option ℕ → List Event → List Call
calls_from last [] = []
calls_from last (event ∷ events) =
    calls_of last event ++ calls_from (last_printed_after last event) events

-- The calls of a list of events.
abbrev pub calls : List Event → List Call
calls events = calls_from None events

-- The calls that events add to those before them: `all` begins with `before`, as the events of a
-- stream do with those of its prefix (`laws::events_grow`).
abbrev pub calls_after : List Event → List Event → List Call
calls_after before all = drop (length (calls before)) (calls all)

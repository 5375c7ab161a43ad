-- The value of a performer, and what events and private modes make of it.
use Rattle.std.specs.Borrow.{GName}
use Rattle.std.specs.Prelude.{Bool, if◌then◌else◌, List, nat_lt, Option, ℕ, [], ◌==◌, ◌||◌, ◌≡◌}
use Rattle.vte.specs.Calls.{calls_of, last_printed_after}
use Rattle.vte.specs.CommandCalls.{system_command_calls}
use Rattle.vte.specs.ControlSequenceCalls.{change_call, change_calls}
use Rattle.vte.specs.declared.ansi.calls.control_sequence.ModeChange.TheVariants.{SetPrivate}
use Rattle.vte.specs.declared.ansi.calls.performer.Performer.{Performer}
use Rattle.vte.specs.Numbers.{first_numbers}
use Rattle.vte.specs.private.JoinedTexts.{fits_text_capacity}
use Rattle.vte.specs.Processor.{timeout_set_times}
use Rattle.vte.specs.Synchronized.{begin_count_in_event, update_group_count, update_mode}
use Rattle.vte_core.specs.Event.{Event, OscDispatch}
use Rattle.vte_handler.specs.Call.{Call}
use Rattle.vte_handler.specs.Handler.{after}
use Rattle.vte_handler.specs.Timeout.{TimeoutMeaning}

-- The values of its handler and its timeout, the last printed character, the size of its buffer for
-- texts, whether an update has begun, which state and handler it is lent.
pub record PerformerValue (V W : Type 0) : Type 0 where
  pub handler : V
  pub timeout : W
  pub last : Option ℕ
  pub text_capacity : ℕ
  pub terminated : Bool
  pub state_name : GName
  pub handler_name : GName

-- That of a performer, by what its handler, its timeout and its buffer for texts stand for. Of the
-- types, `H` is the handler, and `G` the granularity of its text.
abbrev pub performer_value : {H T B G V W : Type 0}
    → (H → V) → (T → W) → (B → ℕ) → Performer H T B G → PerformerValue V W
performer_value handler_of timeout_of text_capacity_of performer = record {
  handler = handler_of performer.handler.now;
  timeout = timeout_of performer.state.now.timeout;
  last = performer.state.now.last_printed;
  text_capacity = text_capacity_of performer.state.now.text;
  terminated = performer.terminated;
  state_name = performer.state.ghost_name;
  handler_name = performer.handler.ghost_name;
}

-- The calls of an event. A command that doesn't fit the buffer for texts makes none.
abbrev pub calls_made : ℕ → Option ℕ → Event → List Call
calls_made text_capacity last (OscDispatch pieces bell) =
    if fits_text_capacity text_capacity pieces then system_command_calls pieces bell else []
calls_made text_capacity last event = calls_of last event

-- With a text of this size, the calls of the event are made.
abbrev pub FitsText : ℕ → Event → Type 0
FitsText text_capacity event = (last : Option ℕ)
    → calls_made text_capacity last event ≡ calls_of last event

-- An event that begins an update terminates the performer.
abbrev pub performer_with_event : {V W : Type 0}
    → (V → Call → V) → TimeoutMeaning W → PerformerValue V W → Event → PerformerValue V W
performer_with_event step timeout performer event = record {
  handler = after step performer.handler (calls_made performer.text_capacity performer.last event);
  timeout = timeout_set_times timeout (begin_count_in_event event) performer.timeout;
  last = last_printed_after performer.last event;
  text_capacity = performer.text_capacity;
  terminated = performer.terminated || nat_lt 0 (begin_count_in_event event);
  state_name = performer.state_name;
  handler_name = performer.handler_name;
}

-- A private mode is set. The handler receives the call, and the update mode also begins an update.
abbrev pub with_private_mode : {V W : Type 0}
    → (V → Call → V) → TimeoutMeaning W → PerformerValue V W → ℕ → PerformerValue V W
with_private_mode step timeout performer number = record performer {
  handler = step performer.handler (change_call SetPrivate number);
  timeout = timeout_set_times timeout (if number == update_mode then 1 else 0) performer.timeout;
  terminated = performer.terminated || number == update_mode;
}

-- A private mode is set for each group.
abbrev pub with_private_modes : {V W : Type 0}
    → (V → Call → V) → TimeoutMeaning W → PerformerValue V W → List (List ℕ) → PerformerValue V W
with_private_modes step timeout performer groups = record performer {
  handler = after step performer.handler (change_calls SetPrivate (first_numbers groups));
  timeout = timeout_set_times timeout (update_group_count groups) performer.timeout;
  terminated = performer.terminated || nat_lt 0 (update_group_count groups);
}

-- Control sequences (ECMA-48, section 5.4), after ESC [.
use Rattle.std.specs.Prelude.{if◌then◌else◌, List, ℕ, [], ◌∷◌}
use Rattle.vte_core.specs.Class.{class_of, ends_head, is_cancel}
use Rattle.vte_core.specs.CutBefore.{cut_before}
use Rattle.vte_core.specs.Event.{CsiDispatch, Event, Execute}
use Rattle.vte_core.specs.Head.{head_bytes, head_of, is_well_shaped, sequence_event}
use Rattle.vte_core.specs.Outcome.{ControlSequenceToClose, leaves, Outcome, report}
use Rattle.vte_core.specs.Text.{executed_events, text_outcome}

-- CAN and SUB are executed. A final byte dispatches a well-shaped head, and gives nothing after any
-- other.
unfoldable pub control_sequence_end : List ℕ → ℕ → List Event
control_sequence_end head end =
    if is_cancel (class_of end) then Execute end ∷ []
    else if is_well_shaped (head_of head) then sequence_event CsiDispatch (head_of head) end ∷ []
    else []

-- The end, and the text that follows it. Without an end the sequence stays open.
abbrev pub control_sequence_rest : List ℕ → List ℕ → Outcome
control_sequence_rest head [] = leaves ControlSequenceToClose
control_sequence_rest head (end ∷ text) = report (control_sequence_end head end) (text_outcome text)

-- The end is the first of 40..7E, CAN and SUB. Before it, plain controls are executed, 20..3F are
-- the head, and the rest is dropped.
unfoldable pub control_sequence_outcome : List ℕ → Outcome
control_sequence_outcome bytes =
    let cut = cut_before (λ b. ends_head (class_of b)) bytes in
    report (executed_events cut.before) (control_sequence_rest (head_bytes cut.before) cut.rest)

-- Escape sequences (ECMA-35, section 13.2), after ESC.
use Rattle.std.specs.List.{filter}
use Rattle.std.specs.Prelude.{if◌then◌else◌, List, ℕ, [], ◌∷◌}
use Rattle.vte_core.specs.Class.{class_of, ends_escape, is_cancel, is_intermediate}
use Rattle.vte_core.specs.CutBefore.{cut_before}
use Rattle.vte_core.specs.Event.{EscDispatch, Event, Execute}
use Rattle.vte_core.specs.Intermediates.{are_too_many, kept_intermediates}
use Rattle.vte_core.specs.Outcome.{EscapeToClose, leaves, Outcome, report}
use Rattle.vte_core.specs.Text.{executed_events, text_outcome}

-- CAN and SUB are executed. A final byte dispatches the sequence.
abbrev pub escape_end : List ℕ → ℕ → Event
escape_end intermediates end =
    if is_cancel (class_of end) then Execute end
    else EscDispatch (kept_intermediates intermediates) (are_too_many intermediates) end

-- The end, and the text that follows it. Without an end the sequence stays open.
abbrev pub escape_rest : List ℕ → List ℕ → Outcome
escape_rest intermediates [] = leaves EscapeToClose
escape_rest intermediates (end ∷ text) =
    report (escape_end intermediates end ∷ []) (text_outcome text)

-- The end is the first of 30..7E, CAN and SUB. Before it, plain controls are executed and 20..2F
-- are the intermediates.
unfoldable pub escape_outcome : List ℕ → Outcome
escape_outcome bytes =
    let cut = cut_before (λ b. ends_escape (class_of b)) bytes in
    report (executed_events cut.before)
    (escape_rest (filter (λ b. is_intermediate (class_of b)) cut.before) cut.rest)

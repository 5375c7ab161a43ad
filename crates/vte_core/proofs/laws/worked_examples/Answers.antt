-- Each example is what the definitions compute. For `text_is_left` they compute two printed characters, of which
-- the second isn't outside of runs.
use Rattle.vte_core.proofs.Common.{All, All-head, arith, body_outcome, breaks_at, character_event, class_of, control_sequence_end, control_sequence_outcome, device_control_after_head, device_control_outcome, device_data_outcome, drop, escape_outcome, events, executed_events, groups_of, has_too_many_numbers, head_of, is_truncated, is_well_formed, is_well_shaped, IsOutsideRuns, kept_items, loses_data, malformed_event, numbers, open_character, Option, outcome, pieces_of, Print, reported_before, resumed_stream, rules, segment_event, sequence_event, sequence_kind, subst, system_command_outcome, text_outcome, trailing_count, utf8_rows, ℕ, [], ◌∷◌, ◌≡◌}
use Rattle.vte_core.proofs.laws.worked_examples.Goals as goal
use Rattle.vte_core.specs.Examples.{LeavesTextToRun}
use Rattle.vte_core.specs.IgnoredString.{ignored_string_outcome}
use Rattle.vte_core.specs.Open.{open_at_end}

text_is_left : (limit : Option ℕ) → LeavesTextToRun limit
unfolding events outcome text_outcome segment_event character_event malformed_event utf8_rows is_well_formed
    is_truncated trailing_count reported_before breaks_at open_character
text_is_left limit reported =
    let same : reported_before limit (0xe4 ∷ []) (0xbf ∷ 0x99 ∷ 0xe6 ∷ 0x97 ∷ 0xa5 ∷ []) 5
    ≡ Print 0x4fd9 ∷ Print 0x65e5 ∷ [] = search rules in
    let left : All IsOutsideRuns (Print 0x65e5 ∷ []) =
    subst (λ es. All IsOutsideRuns (drop 1 es)) same reported.after_first in
    absurd (omega (arith, All-head IsOutsideRuns (Print 0x65e5) [] left))

pub returns : goal.returns
unfolding events outcome text_outcome segment_event character_event malformed_event utf8_rows is_well_formed
    is_truncated trailing_count body_outcome sequence_kind class_of executed_events escape_outcome
    control_sequence_outcome control_sequence_end head_of is_well_shaped sequence_event numbers groups_of
    has_too_many_numbers device_control_outcome device_control_after_head device_data_outcome
    ignored_string_outcome system_command_outcome loses_data pieces_of kept_items reported_before resumed_stream
    breaks_at open_character open_at_end
returns c = search (rules, text_is_left)

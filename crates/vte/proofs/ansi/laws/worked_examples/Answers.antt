-- The worked examples: the definitions compute.
use Rattle.std.specs.Char.{encode_utf8}
use Rattle.vte.proofs.ansi.laws.worked_examples.Goals as goal
use Rattle.vte.proofs.Common.{all_reset, chars, digits, events, is_utf8, outcome, refl, trim_end, trim_start}
use Rattle.vte.specs.ControlSequenceCalls.{table_without_intermediates}
use Rattle.vte_core.specs.Body.{body_outcome}
use Rattle.vte_core.specs.Class.{class_of}
use Rattle.vte_core.specs.ControlSequence.{control_sequence_end, control_sequence_outcome}
use Rattle.vte_core.specs.Escape.{escape_outcome}
use Rattle.vte_core.specs.Head.{head_of, is_well_shaped, sequence_event}
use Rattle.vte_core.specs.Parameters.{groups_of, has_too_many_numbers, numbers}
use Rattle.vte_core.specs.SequenceKind.{sequence_kind}
use Rattle.vte_core.specs.SystemCommand.{kept_items, pieces_of, system_command_outcome}
use Rattle.vte_core.specs.Text.{character_event, executed_events, malformed_event, segment_event, text_outcome}
use Rattle.vte_core.specs.Utf8.{is_truncated, is_well_formed, trailing_count, utf8_rows}
use Rattle.vte_types.specs.NamedColor.{number_of_color}

pub returns : goal.returns
unfolding events outcome text_outcome segment_event character_event malformed_event utf8_rows is_well_formed
    is_truncated trailing_count body_outcome sequence_kind
    class_of executed_events escape_outcome control_sequence_outcome control_sequence_end head_of is_well_shaped
    sequence_event
    numbers groups_of has_too_many_numbers
    system_command_outcome pieces_of kept_items digits chars is_utf8 trim_start trim_end encode_utf8 all_reset
    number_of_color table_without_intermediates
returns c = record {
  executed = refl;
  escape = refl;
  counted = refl;
  position = refl;
  selected = refl;
  mode = refl;
  rendition = refl;
  title = refl;
  link = refl;
  palette = refl;
  command = refl;
  color = refl;
  update = refl;
  expired = refl;
  short_examples = record {
    after_end = refl;
    after_second_end = refl;
    without_end = refl;
    from_begin = refl;
    without_begin = refl;
    ends_in_last_two = refl;
    ends_before_last = refl;
    prefix = refl;
    prefix_without_begin = refl;
    fits = refl;
    full = refl;
    with_stop = refl;
    with_two_stops = refl;
  };
}

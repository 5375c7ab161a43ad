-- The fields are pushed one after another, so the line is extended by all of them (`extends_then`).
use Rattle.event_log.proofs.Common.{sequence_fields}
use Rattle.event_log.proofs.lemmas.Fields.{extends_then}
use Rattle.event_log.proofs.lines.LogBuffer.push_sequence_fields.Goals as goal

pub returns : goal.returns
unfolding sequence_fields
returns c =
    let intermediates = extends_then c.push_groups.ensures c.push_hex_field.ensures in
    let flag = extends_then intermediates c.push_flag_field.ensures in
    extends_then (extends_then flag c.push.ensures) c.push_character.ensures

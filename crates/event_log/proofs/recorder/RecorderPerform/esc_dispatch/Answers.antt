-- The parts of the line are pushed one after another, and it is taken whole or not at all (`line-taken`).
use Rattle.event_log.proofs.Common.{line_of}
use Rattle.event_log.proofs.lemmas.CollectedTexts.{line-taken}
use Rattle.event_log.proofs.lemmas.Fields.{extends_then}
use Rattle.event_log.proofs.recorder.RecorderPerform.esc_dispatch.Goals as goal

pub returns : goal.returns
unfolding line_of
returns c =
    let intermediates = extends_then c.push.ensures c.push_hex_field.ensures in
    let flag = extends_then intermediates c.push_flag_field.ensures in
    let byte = extends_then (extends_then flag c.push-2.ensures) c.push_hex_byte.ensures in
    rw (← c.self.view_is) (line-taken c.begin.ensures (extends_then byte c.push-3.ensures) c.end.ensures)

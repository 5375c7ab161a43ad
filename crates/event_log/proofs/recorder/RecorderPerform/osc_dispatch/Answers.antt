-- The parts of the line are pushed one after another, and it is taken whole or not at all (`line-taken`).
use Rattle.event_log.proofs.Common.{line_of}
use Rattle.event_log.proofs.lemmas.CollectedTexts.{line-taken}
use Rattle.event_log.proofs.lemmas.Fields.{extends_then}
use Rattle.event_log.proofs.recorder.RecorderPerform.osc_dispatch.Goals as goal

pub returns : goal.returns
unfolding line_of
returns c =
    let flag = extends_then c.push.ensures c.push_flag_field.ensures in
    let line = extends_then (extends_then flag c.push_pieces_fields.ensures) c.push-2.ensures in
    rw (← c.self.view_is) (line-taken c.begin.ensures line c.end.ensures)

-- The parts of the line are pushed one after another, and it is taken whole or not at all (`line-taken`).
use Rattle.event_log.proofs.lemmas.CollectedTexts.{line-taken}
use Rattle.event_log.proofs.lemmas.Fields.{extends_then}
use Rattle.event_log.proofs.recorder.Recorder.append_sequence.Goals as goal

pub returns : goal.returns
returns c =
    let line = extends_then (extends_then c.push.ensures c.push_sequence_fields.ensures) c.push-2.ensures in
    rw (← c.self.view_is) (line-taken c.begin.ensures line c.end.ensures)

-- The engine keeps the memory for texts (`stops_within`).
use Rattle.vte.proofs.ansi.bounded_processor.BoundedProcessor.stop_sync_text.Goals as goal
use Rattle.vte.proofs.lemmas.replays.ProcessorAndEngine.{stops_within}

pub returns : goal.returns
returns g c = stops_within (λ had. had) (λ has. has) c.stop.ensures.stopped

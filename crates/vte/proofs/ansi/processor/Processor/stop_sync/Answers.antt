-- The processor is where its engine is (`stops_within`).
use Rattle.vte.proofs.ansi.processor.Processor.stop_sync.Goals as goal
use Rattle.vte.proofs.lemmas.replays.ProcessorAndEngine.{has_text_memory, stops_within}

pub returns : goal.returns
returns g c = stops_within (λ _. has_text_memory) (λ _. tt) c.stop.ensures.stopped

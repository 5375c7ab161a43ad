-- There is memory for texts, so nothing is refused and all bytes are read (`refused-never`).
use Rattle.vte.proofs.ansi.processor.Processor.advance_text.Goals as goal
use Rattle.vte.proofs.lemmas.replays.ProcessorAndEngine.{has_text_memory, refused-never}

pub returns : goal.returns
returns g c = refused-never (λ _. has_text_memory) (λ _. tt) c.args.bytes c.advance.result c.advance.ensures

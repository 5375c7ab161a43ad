-- There is memory for texts, so nothing is refused and all bytes are read (`refused-never`).
use Rattle.vte.proofs.ansi.bounded_processor.BoundedProcessor.advance_text.Goals as goal
use Rattle.vte.proofs.lemmas.replays.ProcessorAndEngine.{refused-never}

pub returns : goal.returns
returns g c = refused-never (λ had. had) (λ has. has) c.args.bytes c.advance.result c.advance.ensures

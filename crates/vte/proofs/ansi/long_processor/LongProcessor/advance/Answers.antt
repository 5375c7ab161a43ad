-- What the engine ensures, and that no memory is refused which is there (`replays/ProcessorAndEngine`).
use Rattle.vte.proofs.ansi.long_processor.LongProcessor.advance.Goals as goal
use Rattle.vte.proofs.lemmas.replays.ProcessorAndEngine.{advances_long}

pub returns : goal.returns
returns g c = advances_long c.args.bytes c.advance.result c.advance.ensures

-- The parser's contract is the one of turns (`EnoughMemory`).
use Rattle.vte.proofs.ansi.updates.long_parsing.InRunsParseAsLongParser.advance.Goals as goal
use Rattle.vte.proofs.lemmas.events.EnoughMemory.{long_parses}

pub returns : goal.returns
returns g c = long_parses _ c.advance_text.ensures

-- The parser's contract is the one of turns (`EnoughMemory`).
use Rattle.vte.proofs.ansi.updates.long_parsing.InRunsParseAsLongParser.advance_until_begin.Goals as goal
use Rattle.vte.proofs.lemmas.events.EnoughMemory.{long_stops}

pub returns-in-Ok : goal.returns-in-Ok
returns-in-Ok g c = long_stops _ c.in-Ok.ensures

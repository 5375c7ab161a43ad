-- The parser's contract is the one of turns (`EnoughMemory`).
use Rattle.vte.proofs.ansi.updates.parsing.ByCharacterParseAsParser.advance_until_begin.Goals as goal
use Rattle.vte.proofs.lemmas.events.EnoughMemory.{short_stops}

pub returns : goal.returns
returns g c = short_stops c.advance_until_terminated.ensures

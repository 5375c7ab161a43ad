-- A refused turn leaves nothing held and is outside an update, so the rest is taken by the turn that would have taken
-- it (`until_refused-goes_on`).
use Rattle.vte.proofs.ansi.laws.refused_calls_go_on.Goals as goal
use Rattle.vte.proofs.lemmas.turns.RefusedTurns.{until_refused-goes_on}

pub returns-clause-inside_turn : goal.returns-clause-inside_turn
returns-clause-inside_turn g c = until_refused-goes_on _

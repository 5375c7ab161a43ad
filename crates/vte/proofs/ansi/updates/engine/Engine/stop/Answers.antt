-- All held bytes are released and parsed, and then the update ends.
use Rattle.vte.proofs.ansi.updates.engine.Engine.stop.Goals as goal
use Rattle.vte.proofs.Common.{add-zero, ◌∙◌}
use Rattle.vte.proofs.lemmas.turns.EngineTurns.{parts-at, stops_update}

pub returns-clause-stopped : goal.returns-clause-stopped
returns-clause-stopped g c = stops_update (λ state is_at.
    c.end_update.ensures.stops state 0 (parts-at is_at)
    (c.release_all.ensures.released ∙ is_at.processor_is.holds) c.release_all.ensures.nothing_held
    (λ some_held. rw add-zero (is_at.processor_is.has_memory some_held))) (λ stream count had. had)

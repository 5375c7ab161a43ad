-- ESC, CAN and SUB each lead to the same place from every place, so what came before doesn't change how what follows
-- is read (`resynchronises`).
use Rattle.vte_core.proofs.laws.resync.Goals as goal
use Rattle.vte_core.proofs.lemmas.streams.StreamSteps.{resynchronises}

pub returns : goal.returns
returns c = resynchronises

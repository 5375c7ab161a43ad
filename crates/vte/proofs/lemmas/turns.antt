-- The turns of a call: from slices and holds to a turn, and from turns to what a processor ensures.

-- Of states alone: the kinds of turns, what becomes of each byte, and what stays true of a hold.
pub mod TurnKinds
pub mod EachOnce
pub mod HoldFacts
-- A parsing turn by slices, the turns of a call of which the last is refused memory, and a hold turn by its parts.
pub mod Slices
pub mod RefusedTurns
pub mod HoldTurns
-- From the engine's functions to the turns of a call.
pub mod EngineTurns

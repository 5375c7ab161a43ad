-- From what an engine ensures to what a processor does, and on to lists of calls.

-- What the handler receives by a list of calls.
pub mod ReceivedCalls
-- A list of calls, made call by call, and to which states it leads.
pub mod ReplayedSteps
-- Lists of calls without an update.
pub mod WithoutUpdates
-- The public contracts of the processors, from those of their engine.
pub mod ProcessorAndEngine

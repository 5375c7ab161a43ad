-- How a call goes on, from one position to the next.

-- From position to position, to a stop or the end, and what is reported there.
pub mod SettledStates
pub mod Progress
pub mod CallEnds
pub mod AddedEvents
-- Any stretch of a call: how stretches compose, and what a byte does that a state's function reads.
pub mod Stretches
pub mod TakenBytes
-- Text: a byte between characters, the bytes inside one, and runs.
pub mod Characters
pub mod BetweenCharacters
pub mod TextRuns
-- After ESC, the head of a sequence, and data.
pub mod EscapeStretches
pub mod HeadStretches
pub mod DataStretches
-- Calls that return at a run.
pub mod ToRun
-- What is open, refused memory, and what the calls of both parsers ensure.
pub mod Open
pub mod Contracts

-- A line uses only those above it. docs/PROOFS.md leads from the headline down.

-- The two sequences of updates: in held bytes, and where bytes are parsed.
pub mod updates
-- From events to calls, and to a performer's value, with memory for them.
pub mod events
-- From slices of bytes and holds to the turns of a call.
pub mod turns
-- From turns to processors, and from calls to lists of them.
pub mod replays
-- Of the functions that make calls: loops, colours and texts.
pub mod calls

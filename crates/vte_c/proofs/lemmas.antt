-- A line uses only those above it.

-- From the parts of a call to what the parser goes on with.
pub mod Continuations
-- From an event to the length of its data, part by part.
pub mod Lengths
-- From events to what they leave in the buffers.
pub mod Buffers
-- From the parser's calls, one after another, to a call of `vte_feed`.
pub mod CallSteps
-- From records and data to the events that a caller reads from them.
pub mod ReadBack
-- From a call to what was given of a stream.
pub mod CallResults
-- From the parser's calls to the text of `vte_strip`.
pub mod Stripping
-- From what is open to its number.
pub mod OpenCodes

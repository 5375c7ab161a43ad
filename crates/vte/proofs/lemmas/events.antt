-- What a performer makes of the events of bytes, if there is memory for them.

-- From events to calls, and to the performer's value.
pub mod EventCalls
pub mod PerformedEvents
-- With memory for all bytes, the parsers read them, and the texts that commands join fit.
pub mod EnoughMemory

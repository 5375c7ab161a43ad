-- What private functions of a processor promise each other. Callers need none of it.
-- In reading order.
pub mod Colors
pub mod JoinedTexts
pub mod PerformerValue
pub mod Parsing
pub mod Hold
pub mod Engine

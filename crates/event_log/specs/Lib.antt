-- In reading order.

-- What is written of an event: a line, or plain text.
pub mod Lines
pub mod Plain
-- What a collector holds.
pub mod CollectedText
-- Devices that may fail, and a log from one to another.
pub mod Device
pub mod Run
-- For the proof alone.
pub mod private
-- What the definitions above use from the library below.
pub use Rattle.vte_core.specs.Event
pub use Rattle.vte_core.specs.Stream

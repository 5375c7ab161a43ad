-- In reading order.

-- The record of an event, and its data.
pub mod Record
pub mod OpenCode
-- What was reported of a stream, and what each function of the library ensures.
pub mod Reported
pub mod Calls
-- For the proof alone.
pub mod private
-- Definitions of the libraries below that the contracts use.
pub use Rattle.event_log.specs.Plain
pub use Rattle.vte_core.specs.Event
pub use Rattle.vte_core.specs.Stream

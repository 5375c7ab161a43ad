-- In reading order.

-- The calls of executed bytes and escape sequences.
pub mod OptionalCalls
pub mod Numbers
pub mod EscapeCalls
-- Those of control sequences.
pub mod SelectedValues
pub mod Split
pub mod Colors
pub mod Rendition
pub mod ControlSequenceCalls
-- Those of operating system commands.
pub mod CommandCalls
-- Those of all events.
pub mod Calls
-- What begins and ends a synchronized update.
pub mod Synchronized
-- What a processor does, what contracts know of one, and what its calls ensure.
pub mod Processor
pub mod Memory
pub mod Views
pub mod ProcessorFacts
pub mod ProcessorCalls
pub mod StdSyncHandler
-- The same if memory may be refused.
pub mod Refusal
pub mod LongProcessor
-- Examples, worked out by hand.
pub mod CallExamples
pub mod UpdateExamples
-- For the proof alone.
pub mod private
-- Crates that depend on `vte` find here the definitions that its contracts use from the crates
-- below.
pub use Rattle.vte_core.specs.Advance
pub use Rattle.vte_core.specs.AdvanceToRun
pub use Rattle.vte_core.specs.Body
pub use Rattle.vte_core.specs.Class
pub use Rattle.vte_core.specs.ControlSequence
pub use Rattle.vte_core.specs.CutBefore
pub use Rattle.vte_core.specs.DeviceControl
pub use Rattle.vte_core.specs.Division
pub use Rattle.vte_core.specs.EarlyStop
pub use Rattle.vte_core.specs.EarlyStopLaws
pub use Rattle.vte_core.specs.Escape
pub use Rattle.vte_core.specs.Event
pub use Rattle.vte_core.specs.EventBounds
pub use Rattle.vte_core.specs.Examples
pub use Rattle.vte_core.specs.Head
pub use Rattle.vte_core.specs.IgnoredString
pub use Rattle.vte_core.specs.Intermediates
pub use Rattle.vte_core.specs.Laws
pub use Rattle.vte_core.specs.LongParser
pub use Rattle.vte_core.specs.LongParserCalls
pub use Rattle.vte_core.specs.Looks
pub use Rattle.vte_core.specs.Open
pub use Rattle.vte_core.specs.Outcome
pub use Rattle.vte_core.specs.OutsideRuns
pub use Rattle.vte_core.specs.Parameters
pub use Rattle.vte_core.specs.Parser
pub use Rattle.vte_core.specs.Parts
pub use Rattle.vte_core.specs.RunText
pub use Rattle.vte_core.specs.Saved
pub use Rattle.vte_core.specs.SequenceKind
pub use Rattle.vte_core.specs.Stream
pub use Rattle.vte_core.specs.SystemCommand
pub use Rattle.vte_core.specs.Text
pub use Rattle.vte_core.specs.Utf8
pub use Rattle.vte_handler.specs.Call
pub use Rattle.vte_handler.specs.Handler
pub use Rattle.vte_handler.specs.HandlerCall
pub use Rattle.vte_handler.specs.Link
pub use Rattle.vte_handler.specs.Timeout
pub use Rattle.vte_types.specs.Charset
pub use Rattle.vte_types.specs.CursorIcon
pub use Rattle.vte_types.specs.declared.charset
pub use Rattle.vte_types.specs.declared.color
pub use Rattle.vte_types.specs.declared.cursor_icon
pub use Rattle.vte_types.specs.declared.keyboard
pub use Rattle.vte_types.specs.declared.mode
pub use Rattle.vte_types.specs.declared.screen
pub use Rattle.vte_types.specs.Keyboard
pub use Rattle.vte_types.specs.Mode
pub use Rattle.vte_types.specs.NamedColor
pub use Rattle.vte_types.specs.Rgb
pub use Rattle.vte_types.specs.Words

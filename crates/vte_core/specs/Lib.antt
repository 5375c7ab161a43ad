-- In reading order.

-- What is reported, and to whom.
pub mod Event
pub mod Outcome
-- Bytes and text.
pub mod Class
pub mod Utf8
pub mod Text
pub mod RunText
-- What comes before the final byte of a sequence.
pub mod CutBefore
pub mod Intermediates
pub mod Parameters
pub mod SequenceKind
pub mod Head
-- The kinds of sequences.
pub mod Escape
pub mod ControlSequence
pub mod IgnoredString
pub mod DeviceControl
pub mod SystemCommand
-- Streams, and what a parser has read of one.
pub mod Body
pub mod Stream
pub mod Looks
pub mod Parser
-- What calls ensure.
pub mod EarlyStop
pub mod Advance
pub mod Open
pub mod OutsideRuns
pub mod AdvanceToRun
-- The same without a limit, if memory may be refused.
pub mod CommandMemory
pub mod LongParser
pub mod LongParserCalls
-- Laws of events.
pub mod EventBounds
pub mod Division
pub mod Laws
pub mod EarlyStopLaws
pub mod Parts
-- A parser as plain data.
pub mod Saved
-- Examples, worked out by hand.
pub mod Examples
-- For the proof alone. `HasRead` and its like lead here; callers never take them apart.
pub mod private

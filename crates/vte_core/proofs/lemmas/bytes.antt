-- Bytes: their classes, the sequences of UTF-8, runs of text.

pub mod Classes
-- Which bytes are well formed, truncated or neither, and the number of a well-formed sequence.
pub mod Utf8
pub mod Scalars
-- Runs, the search for their end, and where they end; and the test of eight bytes at once.
pub mod Each
pub mod Runs
pub mod Scans
pub mod NoRuns
pub mod EightBytes

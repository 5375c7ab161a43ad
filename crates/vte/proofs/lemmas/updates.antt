-- The sequences of updates in held bytes: the search for them, and what stays held; where bytes are parsed, the prefix
-- up to the one that begins an update.
pub mod Prefixes
pub mod Sequences
pub mod Seen

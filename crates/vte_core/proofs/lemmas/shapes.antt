-- What a text or head gives, by its definition alone.

-- Events before an outcome.
pub mod Outcomes
-- The parts of a head, and what a text gives from its first segment.
pub mod HeadParts
pub mod FirstSegment
-- What is reported where the next byte breaks a character.
pub mod BrokenCharacters

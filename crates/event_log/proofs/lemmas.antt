-- A line uses only those above it.

-- From the parts of a line, pushed one after another, to all of them.
pub mod Fields
-- From the texts of events to what is collected, from call to call.
pub mod CollectedTexts
-- From an event to the length of its text.
pub mod Lengths
-- From the lengths of texts to collectors that lose none.
pub mod KeptTexts
-- From what is collected to what a log has written.
pub mod Progress

-- What one byte reports after each place, and where it leads.

-- By the kind of place and of byte.
pub mod PlaceLeads
-- From a text or body to the stream.
pub mod BytesInStream
-- What a byte does: in a text; CAN, SUB and ESC at all places; then all bytes.
pub mod Steps
pub mod TextSteps
pub mod PlaceSteps

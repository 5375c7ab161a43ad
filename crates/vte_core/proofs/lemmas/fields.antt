-- What the fields of a parser hold, and what one byte makes of it.

-- Groups as they are stored, numbers, and heads.
pub mod FlatGroups
pub mod Numbers
pub mod Heads
-- Items that are kept, their pieces, and the store.
pub mod Pieces
pub mod Stores
-- The place that all fields say, and the same place after a clone or from what was saved.
pub mod PlaceOfState

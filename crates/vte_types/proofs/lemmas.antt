-- Words and the tables of them (`Words`), colours (`Colors`) and flags (`Bits`).
pub mod Bits
pub mod Colors
pub mod Words

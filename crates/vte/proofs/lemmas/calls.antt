-- What the functions of `ansi/calls` need of loops, colours and texts. Attributes in the code cite most of it.

pub mod Loops
pub mod Colors
pub mod SplitTexts
pub mod JoinedTexts

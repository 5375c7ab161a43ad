-- How a text is divided, and that the standard library divides it so.

pub mod Division
pub mod Utf8Agrees

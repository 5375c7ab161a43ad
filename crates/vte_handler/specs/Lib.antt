-- In reading order.

-- The calls of a handler, and what they make of its value.
pub mod Call
pub mod HandlerCall
pub mod Handler
-- What a hyperlink copies.
pub mod Link
-- When an update ends without its end.
pub mod Timeout

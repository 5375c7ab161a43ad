-- What private functions promise each other. Callers need none of it. In reading order.
pub mod Buffers
pub mod WrittenText
pub mod Feeding

-- What private functions promise each other. Callers need none of it.
pub mod Line
pub mod Progress

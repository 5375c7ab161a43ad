pub mod Charset
pub mod CursorIcon
pub mod Keyboard
pub mod Mode
pub mod NamedColor
pub mod Rgb
pub mod Words

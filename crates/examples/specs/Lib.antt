pub mod Bell
pub mod CommandText
pub mod LastPrinted
pub mod Logged
pub mod Page
pub mod Printed
pub mod Session

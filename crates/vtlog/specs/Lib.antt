pub mod Arguments
pub mod End

pub mod standing
pub mod group
pub mod copy

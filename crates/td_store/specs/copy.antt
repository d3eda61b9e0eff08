pub mod Room
pub mod Until
pub mod Copied
pub mod Refusals

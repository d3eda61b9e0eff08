pub mod Names
pub mod Noted
pub mod Orders
pub mod OrderProofs
pub mod Lines
pub mod Scripts
pub mod Placed

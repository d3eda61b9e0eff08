pub mod Lines
pub mod Spelled
pub mod Renames
pub mod Steps
pub mod Written
pub mod Examples

pub mod Words
pub mod Asked
pub mod Ranks
pub mod Weighed
pub mod Lines

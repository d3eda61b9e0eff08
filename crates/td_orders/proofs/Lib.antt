pub mod Accepted
pub mod Unseen
pub mod PlainLines
pub mod Lines
pub mod Scripts
pub mod Excerpts
pub mod Placed
pub mod Unplaced

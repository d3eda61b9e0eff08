pub mod Newness
mod Carrying
pub mod Told
pub mod Held
pub mod SeenAsked
pub mod Replies
pub mod Lines
pub mod Copies
pub mod Counting
pub mod Placed
pub mod Obeyed
pub mod Acknowledged
pub mod Sessions
pub mod Moments
pub mod Causes
pub mod Stepping
pub mod Serving
pub mod Plain

pub mod Life
pub mod Comes
pub mod Holds
pub mod Feeds
pub mod Held

pub mod SlotsError
pub mod Slot
pub mod Newest
pub mod Images
pub mod Parsed
pub mod Examples
pub mod Steps

pub mod Bag
pub mod Cells
pub mod Gaps
pub mod Held
pub mod Ways

pub mod Printable
pub mod Narrowed
pub mod Wording
pub mod Reread
pub mod Pieces
pub mod PlacedDump
pub mod BringsOn
mod Shown

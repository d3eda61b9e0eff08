pub mod Groups
pub mod Safe

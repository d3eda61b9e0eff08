pub mod Readings
pub mod Snapshots
pub mod Files

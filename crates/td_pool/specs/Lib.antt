pub mod Refusals
pub mod Hands
pub mod Lents
pub mod Counts
pub mod Courses
pub mod Stands

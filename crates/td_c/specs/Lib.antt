pub mod Answered
pub mod Beside
pub mod Changes
pub mod Epoch
pub mod PlanRead
pub mod Refusals
pub mod Rows
pub mod Stores

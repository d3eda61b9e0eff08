pub mod AnyOrder
pub mod Arrivals
pub mod Filters
pub mod Joins
pub mod Notifications
pub mod Sets

pub mod Command
pub mod Examples
pub mod Jobs
pub mod Table
pub mod Wait

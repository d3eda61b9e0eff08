pub mod Counted
pub mod Ledger
pub mod Beginnings
pub mod Noting
pub mod Standing

pub mod AnyOrder
pub mod Flows
pub mod Folds
pub mod Lists
pub mod Meanings
pub mod Quiet
pub mod Ranges
pub mod Runs
pub mod Solutions
pub mod Turns
pub mod TurnsSolve
pub mod Unique
mod Alike
mod Epochs
mod InOrder
mod Local
mod Loops
mod MoreEpochs
mod Once
mod Outer

pub mod Firsts
pub mod Weights
pub mod Listing
mod Unordered

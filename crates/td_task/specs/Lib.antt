pub mod Answered
pub mod Arriving
pub mod Contents
pub mod Cuts
pub mod KeyAts
pub mod KeyLists
pub mod Refusals

pub mod Narrowed
pub mod Shown
pub mod RefusedProofs
pub mod Dumped

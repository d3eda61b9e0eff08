-- Definitions that are the evaluator's own steps. What it computes is said in Meaning: nothing here has to be believed.
pub mod Tree
pub mod Built
pub mod Emitted
pub mod Sent
pub mod Epoch

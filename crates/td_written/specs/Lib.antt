pub mod Durable
pub mod Promises
pub mod Texts

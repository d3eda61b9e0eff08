pub mod HeadError
pub mod Layout
pub mod Head
pub mod Images
pub mod Read
pub mod Examples

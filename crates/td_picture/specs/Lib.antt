pub mod Words
pub mod Listed
pub mod Drawn
pub mod Printed

pub mod Catalogue
pub mod Folds
pub mod Groups
pub mod Maps
pub mod ProvedCatalogue
pub mod Shelves
pub mod Values

pub mod Visits

pub mod Words
pub mod Openings
pub mod Performing

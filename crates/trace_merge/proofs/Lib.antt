pub mod Distinct
pub mod Gathering
pub mod Exists
pub mod Words

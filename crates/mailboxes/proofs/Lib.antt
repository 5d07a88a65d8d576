pub mod Homes
pub mod Rows
pub mod Words

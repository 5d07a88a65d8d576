pub mod Falling
pub mod Rows
pub mod Nearby
pub mod Parted
pub mod Words

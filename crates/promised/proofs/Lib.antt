pub mod Words
pub mod Elements
pub mod Linking
pub mod Reliable
pub mod Promising
pub mod Keeping
mod Examples

pub mod Words
pub mod Dealings
pub mod Deals

pub mod Words
pub mod Totals
pub mod Ledgers
pub mod Lists

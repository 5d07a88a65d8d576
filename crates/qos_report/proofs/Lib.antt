pub mod Words
pub mod Streamed
pub mod Breaking

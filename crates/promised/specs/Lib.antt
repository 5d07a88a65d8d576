pub mod Promised
pub mod Kept

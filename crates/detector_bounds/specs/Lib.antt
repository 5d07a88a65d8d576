pub mod Detected
pub mod Bounds
pub mod Shared

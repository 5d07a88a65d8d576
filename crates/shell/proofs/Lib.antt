pub mod Basics
pub mod Going
pub mod Leaving
pub mod Serving

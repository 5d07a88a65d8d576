pub mod Words
pub mod Framing
pub mod Stretching
pub mod Sweeping
pub mod Joining
pub mod Counting
pub mod RowShapes
pub mod LineShapes

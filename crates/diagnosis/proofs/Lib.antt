pub mod Telling
pub mod Positions
pub mod Likenesses

pub mod Words
pub mod Greatest
pub mod Added
pub mod Counting
pub mod Layered
pub mod FirstNumbers
pub mod Lines
pub mod Single
pub mod Lasted
pub mod Parts
pub mod Bounding
pub mod Attained
mod Reading
mod Numbered
mod Units
pub mod Zipped
mod Advancing
mod Grouped
mod Blocks
mod OneRow
pub mod Places
mod OneText
pub mod Shards
mod Ending
mod Placed
mod Heard
mod Limiting

pub mod Setting
pub mod Step
pub mod World
pub mod History
pub mod Theorems
pub mod Taken

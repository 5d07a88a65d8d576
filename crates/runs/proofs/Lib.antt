pub mod Words
pub mod Ordered
mod OneStep
pub mod Coming
pub mod Numbered
pub mod Losing
mod Least
mod Bounded
pub mod Resting
mod Trusting
pub mod Finishing

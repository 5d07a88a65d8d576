pub mod Out
pub mod Verdicts
pub mod Outcomes
pub mod Turns
pub mod Pairs
pub mod Track
pub mod Agreement
pub mod Inside

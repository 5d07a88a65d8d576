pub mod Plan
pub mod Berth
pub mod Stage
pub mod Inside

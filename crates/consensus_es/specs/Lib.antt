pub mod State
pub mod Inside

pub mod Pending
pub mod Inside

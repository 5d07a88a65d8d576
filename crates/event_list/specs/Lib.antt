pub mod Following
pub mod Inside

pub mod Commands
pub mod Order
pub mod Inside

pub mod Opening
pub mod Record
pub mod Ranges
pub mod Inside

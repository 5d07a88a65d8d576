pub mod Machine
pub mod Theorems
pub mod Inside

pub mod Letters
pub mod Grounds
pub mod Finishing
pub mod Inside

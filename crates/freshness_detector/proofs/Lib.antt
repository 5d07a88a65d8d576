pub mod Words
pub mod Points
pub mod Tables

pub mod Inside
pub mod Posting
pub mod Seat

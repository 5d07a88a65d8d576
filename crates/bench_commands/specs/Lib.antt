pub mod Fault
pub mod Answer
pub mod Why
pub mod Serve
pub mod Inside

pub mod State
pub mod Machine

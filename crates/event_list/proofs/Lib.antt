pub mod Words
pub mod Opening
pub mod Recording
pub mod Standing

pub mod Private
pub mod AxisWords

-- words that private functions and proofs of this crate use alone: no public contract rests on them
pub mod Adding
pub mod Progress
pub mod Private
pub mod Sums

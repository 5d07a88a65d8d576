-- words that private functions and proofs of this crate use alone: no public contract rests on them
pub mod Noting
pub mod Private

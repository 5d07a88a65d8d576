-- words that private functions and proofs of this crate use alone: no public contract rests on them
pub mod Bits
pub mod Noting
pub mod SameLaws

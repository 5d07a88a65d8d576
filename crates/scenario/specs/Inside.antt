-- words that private functions and proofs of this crate use alone: no public contract rests on them
pub mod Outages
pub mod Proposals
pub mod Parts
pub mod Private

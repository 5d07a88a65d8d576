-- words that private functions and proofs of this crate use alone: no public contract rests on them
pub mod Statuses
pub mod Warned
pub mod Setting
pub mod RangeHint
pub mod Private

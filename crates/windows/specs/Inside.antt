-- words that private functions, proofs and tests use alone: no public contract rests on them
pub mod Outbox
pub mod Workers
pub mod Closing
pub mod Agenda

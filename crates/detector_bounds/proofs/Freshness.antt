-- Freshness points.
pub mod Steps
pub mod Known
pub mod Bounded

pub mod DetectorFacts
mod Stretches

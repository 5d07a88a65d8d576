pub mod Diagnosis
pub mod Text

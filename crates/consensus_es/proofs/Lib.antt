pub mod Words
mod Cases
mod Settled
mod Settling
mod Bound
mod Choosing

pub mod Words
mod InTurn

pub mod Words
pub mod NoQuotes
pub mod PlainRows
pub mod Passes
pub mod EachProcess
pub mod Closing
pub mod Layers
pub mod Fed
pub mod Followed
pub mod Fronts
pub mod Listing
mod Examples
pub mod Joining
pub mod Written

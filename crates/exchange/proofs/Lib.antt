mod Writing
mod Spelling
pub mod Reading
pub mod Laws
mod Searches
mod Heard
mod Waiting
pub mod Found
pub mod Letter

pub mod Puts
pub mod Searches
pub mod Entries
pub mod Sums
pub mod Tables
pub mod Choosing
pub mod Least

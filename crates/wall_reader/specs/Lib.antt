pub mod Lines
pub mod Reads
pub mod Filters
pub mod Charts
pub mod Requests
pub mod Shown
pub mod Worked
pub mod Tails

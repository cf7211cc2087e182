pub mod Back
pub mod Held
pub mod Reading
pub mod Walls
pub mod Marks
pub mod Wording
mod Tailing

pub mod Walls
pub mod Shown

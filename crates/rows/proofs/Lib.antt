pub mod Summed
pub mod Walls
pub mod Compared

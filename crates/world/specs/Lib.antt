pub mod Tallies
pub mod Posts
pub mod Rounds
pub mod Worlds

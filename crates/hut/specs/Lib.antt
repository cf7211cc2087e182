pub mod Played
pub mod Effects

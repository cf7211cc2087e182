pub mod Cuts
pub mod Numbers
pub mod Behind
pub mod Hexes
pub mod Written
pub mod Wholes

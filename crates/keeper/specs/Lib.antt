pub mod Stations
pub mod Words

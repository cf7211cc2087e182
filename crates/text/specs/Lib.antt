pub mod Text
pub mod Hex
pub mod Written

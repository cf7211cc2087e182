pub mod Kinds
pub mod Letters
pub mod Laws
pub mod Words
pub mod Adder
pub mod Mail

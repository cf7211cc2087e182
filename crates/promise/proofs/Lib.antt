pub mod Rows
pub mod Induction
pub mod Machines
pub mod Acts
pub mod Start
pub mod Laws

pub mod Texts
pub mod Eaches
pub mod Acting
pub mod Stepping

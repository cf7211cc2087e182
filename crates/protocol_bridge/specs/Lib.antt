pub mod Engines
pub mod Same
pub mod Views
pub mod Promises

pub mod Stepped
mod Taken
pub mod Back
mod Ready
pub mod Steadies

pub mod Asked
pub mod Back
pub mod Worked
pub mod Progress

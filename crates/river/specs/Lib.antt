pub mod Lines
pub mod Sections
pub mod Sketch
pub mod Rivers
pub mod Mistakes
pub mod Fine
pub mod Spelling
pub mod Back

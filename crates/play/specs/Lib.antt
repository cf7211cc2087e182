pub mod Plays
pub mod Courses
pub mod Verdicts
pub mod Scores
pub mod Trials

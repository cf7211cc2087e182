pub mod Run
pub mod Log
pub mod Boot
pub mod Choose
pub mod Machine
pub mod Entry
pub mod Answers

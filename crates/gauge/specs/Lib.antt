pub mod Memory
pub mod Views
pub mod Deeds
pub mod Gauge
pub mod Phases
pub mod Answers

pub mod Promise
pub mod Once

pub mod Records
pub mod Drawers
pub mod Kept
pub mod Laws

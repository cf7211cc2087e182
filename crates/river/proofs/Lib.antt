pub mod Numbers
pub mod Rows
pub mod Wholes
pub mod Fineness
pub mod Spelled
pub mod Backs

pub mod Cells
pub mod Entries
mod Pagewise
pub mod Longer
pub mod Rows

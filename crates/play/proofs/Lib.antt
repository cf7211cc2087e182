pub mod Unrolling
mod Growing
mod Striking
mod Counting
mod Strokes
mod Limits

mod Huts
mod Posting
mod Turning
mod Shorts
pub mod Unrolling
pub mod Tallying
pub mod Portions

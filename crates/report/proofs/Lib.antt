mod Lines
pub mod Oks

pub mod Seen
pub mod Promises
pub mod Stand

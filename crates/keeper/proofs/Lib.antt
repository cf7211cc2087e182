pub mod Numbers
mod Asking

mod Quiet
mod Ends

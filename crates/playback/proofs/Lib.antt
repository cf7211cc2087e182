mod Told
mod Ends
mod Shown

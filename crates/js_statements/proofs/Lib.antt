mod Loops
mod Passes

mod Keeping
mod Solved

pub mod Rows
pub mod Parts
pub mod Overs
pub mod Coarsers
pub mod Marked
pub mod Values

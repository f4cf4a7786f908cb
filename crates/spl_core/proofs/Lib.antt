pub mod Nodes
pub mod Worked
pub mod Graphs
mod Literals
pub mod Values

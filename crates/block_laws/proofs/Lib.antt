pub mod Places
pub mod Restrict
pub mod Assembly
pub mod Closing
pub mod Components
pub mod Lattice
pub mod Merged
pub mod Steps

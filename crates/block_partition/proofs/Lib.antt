pub mod Places
pub mod Labels
pub mod Groups
pub mod Unique
pub mod Steps
pub mod Relabelled

pub mod Benched
pub mod Explained
pub mod Fair
pub mod Few
pub mod Last
pub mod Promised
pub mod Stopping

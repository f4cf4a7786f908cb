pub mod Places
pub mod Rows
pub mod Targets
pub mod Bringing
pub mod Entering
pub mod Adding
pub mod Values
pub mod Taking
pub mod Forming
pub mod Testing
mod Coherently

-- ---- claims: what the contract of the program says
pub mod Accepted
pub mod Analysis
pub mod Bench
pub mod Call
pub mod Cause
pub mod Command
pub mod Headline
pub mod Reading
pub mod Replay
pub mod Reported

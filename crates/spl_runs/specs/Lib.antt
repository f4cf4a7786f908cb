-- ---- claims: what the contract of the program says
pub mod Runs
pub mod Choices
pub mod Word
pub mod ChoicesText
pub mod Replay
pub mod Laws
-- ---- scaffolding: what proofs and inner contracts say
pub mod Comes
pub mod Reading
pub mod Read
pub mod Takes
pub mod Exact
pub mod Leaving
pub mod Stacks
pub mod Seen
pub mod Examples

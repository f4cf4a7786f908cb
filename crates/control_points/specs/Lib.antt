-- ---- claims: what the contract of the program says
pub mod CoreOf
-- ---- scaffolding: what proofs and inner contracts say
pub mod Examples
pub mod Routines
pub mod Search
pub mod Nodes
pub mod Making
pub mod Building
pub mod Laws
pub mod Emitting

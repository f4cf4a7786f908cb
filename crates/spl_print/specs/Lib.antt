-- ---- claims: what the contract of the program says
pub mod Canonical
-- ---- scaffolding: what proofs and inner contracts say
pub mod Cursor
pub mod Examples
pub mod Nesting
pub mod Pieces
pub mod Writing

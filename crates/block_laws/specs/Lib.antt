-- ---- claims: what the contract of the program says
pub mod Components
-- ---- scaffolding: what proofs and inner contracts say
pub mod Assembly
pub mod Steps
pub mod Closing
pub mod Lattice

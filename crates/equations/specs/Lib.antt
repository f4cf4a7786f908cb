-- ---- claims: what the contract of the program says
pub mod Sources
pub mod Equations
-- ---- scaffolding: what proofs and inner contracts say
pub mod Table
pub mod Inductive

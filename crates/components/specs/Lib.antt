-- ---- claims: what the contract of the program says
pub mod Value
-- ---- scaffolding: what proofs and inner contracts say
pub mod Walk

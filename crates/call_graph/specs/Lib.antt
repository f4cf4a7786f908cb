-- ---- claims: what the contract of the program says
pub mod Reach
pub mod Order
-- ---- scaffolding: what proofs and inner contracts say
pub mod Tables
pub mod Laws
pub mod Steps

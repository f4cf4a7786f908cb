-- ---- claims: what the contract of the program says
pub mod Solved
-- ---- scaffolding: what proofs and inner contracts say
pub mod Laws
pub mod Ends
pub mod Sound
pub mod Plan
pub mod Solution

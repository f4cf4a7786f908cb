-- ---- claims: what the contract of the program says
pub mod Bound
pub mod Table
pub mod Matrix
pub mod Tight
pub mod Octagon
-- ---- scaffolding: what proofs and inner contracts say
pub mod Limits
pub mod Below
pub mod Laws
pub mod Examples

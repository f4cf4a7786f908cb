-- ---- claims: what the contract of the program says
pub mod Program
pub mod Meaning
-- ---- scaffolding: what proofs and inner contracts say
pub mod Lists
pub mod Facts
pub mod Laws

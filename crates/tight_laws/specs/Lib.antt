-- ---- scaffolding: what proofs and inner contracts say
pub mod Restricted
pub mod Laws
pub mod Quick
pub mod Examples

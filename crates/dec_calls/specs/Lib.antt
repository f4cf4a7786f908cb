-- ---- scaffolding: what proofs and inner contracts say
pub mod Inputs
pub mod Brought
pub mod Marks

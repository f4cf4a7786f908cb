-- ---- scaffolding: what proofs and inner contracts say
pub mod Operation
pub mod Over
pub mod Marks
pub mod Coarser

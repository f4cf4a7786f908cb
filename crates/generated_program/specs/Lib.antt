-- ---- scaffolding: what proofs and inner contracts say
pub mod ProgramOf
pub mod Accepted

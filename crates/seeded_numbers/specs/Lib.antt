-- ---- scaffolding: what proofs and inner contracts say
pub mod Random

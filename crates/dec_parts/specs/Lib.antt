-- ---- scaffolding: what proofs and inner contracts say
pub mod Rename
pub mod Lower
pub mod Moving
pub mod Joined

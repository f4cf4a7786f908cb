-- ---- scaffolding: what proofs and inner contracts say
pub mod Given
pub mod Bounds
pub mod Verdict
pub mod Entry
pub mod Sound
pub mod Examples

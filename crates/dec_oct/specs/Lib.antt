-- ---- scaffolding: what proofs and inner contracts say
pub mod Value
pub mod Cost
pub mod Given
pub mod Cut
pub mod Closed

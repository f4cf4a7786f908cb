-- ---- scaffolding: what proofs and inner contracts say
pub mod Words
pub mod Value
pub mod Places
pub mod Taken
pub mod Formed
pub mod Placing

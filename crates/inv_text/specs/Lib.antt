-- ---- scaffolding: what proofs and inner contracts say
pub mod Invariants
pub mod CertText
pub mod Laws
pub mod Example
pub mod Listed
pub mod Places
pub mod Given
pub mod Words
pub mod Reading

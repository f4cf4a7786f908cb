-- ---- scaffolding: what proofs and inner contracts say
pub mod Listed
pub mod Cost
pub mod Forgotten
pub mod Restricted
pub mod Formed
pub mod Closed
pub mod Marks
pub mod TestMarks

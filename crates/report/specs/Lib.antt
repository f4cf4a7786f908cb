-- ---- claims: what the contract of the program says
pub mod Constraint
pub mod ConstraintText
pub mod Listed
pub mod Points
pub mod Report
pub mod Sound
-- ---- scaffolding: what proofs and inner contracts say
pub mod Names
pub mod Readable
pub mod ReadsBack
pub mod Solved
pub mod Values

-- ---- claims: what the contract of the program says
pub mod Partition
-- ---- scaffolding: what proofs and inner contracts say
pub mod Changes
pub mod Grouping
pub mod Relabelling

-- What is claimed: the checks in the order of the walk, the dimensions of a procedure, and what an accepted program keeps.
-- What serves the proof: what the code knows on its way over a tree.
-- ---- claims: what the contract of the program says
pub mod Checks
pub mod Dimensions
-- ---- scaffolding: what proofs and inner contracts say
pub mod Accepted
pub mod Examples
pub mod Faults
pub mod Tables
pub mod Naming
pub mod Sorts
pub mod Walking
pub mod Routines

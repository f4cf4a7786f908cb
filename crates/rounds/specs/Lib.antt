-- ---- claims: what the contract of the program says
pub mod System
pub mod Rounds
pub mod Solved
-- ---- scaffolding: what proofs and inner contracts say
pub mod Widening
pub mod Ends
pub mod Laws
pub mod Slots
pub mod Marks
pub mod Outcome

-- ---- claims: what the contract of the program says
pub mod Parts
pub mod Expression
pub mod Condition
pub mod Graph
-- ---- scaffolding: what proofs and inner contracts say
pub mod Limits
pub mod Facts
pub mod GraphFacts
pub mod Laws
pub mod Examples

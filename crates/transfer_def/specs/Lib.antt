-- ---- claims: what the contract of the program says
pub mod Dimensions
pub mod Assign
pub mod Forget
pub mod Test
pub mod Move
pub mod Enter
pub mod Back
-- ---- scaffolding: what proofs and inner contracts say
pub mod Laws
pub mod Examples
pub mod TestExamples
pub mod CallExamples

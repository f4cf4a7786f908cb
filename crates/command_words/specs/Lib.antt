-- ---- claims: what the contract of the program says
pub mod Texts
pub mod Items
pub mod Number
pub mod Domains
pub mod Command
-- ---- scaffolding: what proofs and inner contracts say
pub mod Spelling
pub mod Cli
pub mod View
pub mod Laws

-- ---- claims: what the contract of the program says
pub mod Bytes
pub mod Gaps
pub mod Keyword
pub mod Pieces
pub mod Place
pub mod Signs
pub mod TextRules
pub mod TokenList
pub mod Words
-- ---- scaffolding: what proofs and inner contracts say
pub mod Checked
pub mod Spans

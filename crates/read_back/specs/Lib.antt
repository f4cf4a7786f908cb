-- ---- claims: what the contract of the program says
pub mod ReadsBack

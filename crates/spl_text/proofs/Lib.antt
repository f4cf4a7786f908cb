pub mod Chains
pub mod Cursors
pub mod FirstRule
pub mod Numerals
pub mod Searches
pub mod Spelling

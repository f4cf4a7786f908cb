pub mod Chains
pub mod Listing
pub mod Nested
pub mod Programs
pub mod Waiting
pub mod Worked
pub mod Written

pub mod Forgotten
pub mod Lowering
pub mod Restricting
pub mod Tested
pub mod Costs
pub mod NewVariable
pub mod Assigned
pub mod Marked

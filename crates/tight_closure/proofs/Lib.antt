pub mod Rows
pub mod Steps
pub mod Evening
pub mod Strong
pub mod Lowered
pub mod ClosedEnds

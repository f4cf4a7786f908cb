pub mod Names
pub mod Lines
pub mod Whole
pub mod Kept
pub mod Placeless
pub mod Rules
pub mod Short
pub mod Accepting

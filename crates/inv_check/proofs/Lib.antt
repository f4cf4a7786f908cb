pub mod Giving
pub mod Entries
pub mod Readings
pub mod Holds
pub mod Worked

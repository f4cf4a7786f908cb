pub mod Entered
pub mod Listings
pub mod Bringing
pub mod Returns

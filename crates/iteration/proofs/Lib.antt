pub mod Ordered
pub mod Forward
pub mod Headline
pub mod Planned

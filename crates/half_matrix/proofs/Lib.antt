pub mod Places
pub mod Views
pub mod Written
pub mod Tops
pub mod Ranges

pub mod Alignment
pub mod Ranges
pub mod Scripts

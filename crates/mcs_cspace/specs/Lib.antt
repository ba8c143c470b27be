pub mod Levels
pub mod Spaces

mod Reaching
pub mod Paths
pub mod Whole
pub mod Nexts
pub mod Telling

pub mod Rows
pub mod Placed
pub mod Deletions
pub mod NewObjects

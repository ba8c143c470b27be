pub mod Rows
pub mod Finding
pub mod Places
pub mod Deletions
pub mod NewObjects

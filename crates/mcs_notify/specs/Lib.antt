pub mod Hearing
pub mod Waiting
pub mod Tying
pub mod Rows

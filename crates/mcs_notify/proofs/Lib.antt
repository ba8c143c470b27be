pub mod Hearing
pub mod Words
pub mod Tying
pub mod Rows

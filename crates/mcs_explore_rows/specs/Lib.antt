pub mod Bytes
pub mod Hashing
pub mod Naming
pub mod Numbers
pub mod Rows

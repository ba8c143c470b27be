pub mod Sources
pub mod Rows
pub mod Ready
pub mod Holding

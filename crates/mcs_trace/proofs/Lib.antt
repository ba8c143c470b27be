pub mod After
pub mod Digits
pub mod Lines
pub mod Outputs
pub mod Parts

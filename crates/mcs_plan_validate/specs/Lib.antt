pub mod Leading
pub mod Reading

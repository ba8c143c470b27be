pub mod Audit
pub mod Fresh

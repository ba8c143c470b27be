pub mod Asking
pub mod Patterns
pub mod Reading
pub mod There
pub mod Forms
pub mod Questions

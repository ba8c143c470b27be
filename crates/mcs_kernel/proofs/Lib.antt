pub mod Serials
pub mod Serving
pub mod Stepping

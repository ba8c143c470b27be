pub mod Room
pub mod Output
pub mod Reading

pub mod Mail
pub mod Walks

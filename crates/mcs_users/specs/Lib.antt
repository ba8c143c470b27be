pub mod Users
pub mod Picks

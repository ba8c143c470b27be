pub mod Trace
pub mod Input
pub mod Runs
pub mod Users
pub mod Running
pub mod Outcomes

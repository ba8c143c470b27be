pub mod Leaving
pub mod Turning
pub mod Priorities
pub mod Badging
pub mod Emptying
pub mod Releasing

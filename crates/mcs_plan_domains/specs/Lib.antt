pub mod Boots
pub mod Channels
pub mod Inputs
pub mod Joins
pub mod Lowered
pub mod Monitors
pub mod Pages
pub mod Questions

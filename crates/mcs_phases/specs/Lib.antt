pub mod Faults
pub mod BootLines
pub mod Script
pub mod Feeds
pub mod Phases

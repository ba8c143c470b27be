mod Walking
mod Picking
mod Scheduled
pub mod Turning
pub mod LastLine
mod Telling

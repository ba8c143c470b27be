mod Bytes
pub mod Deciding
pub mod Naming
mod Slots
mod Telling
mod Choosing

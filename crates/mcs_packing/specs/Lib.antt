pub mod Packing
pub mod Addresses
pub mod Entries
pub mod Heads
pub mod Kept

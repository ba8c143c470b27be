pub mod Seats
pub mod Settling
pub mod Trails

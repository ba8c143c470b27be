pub mod Counting
pub mod Cutting
pub mod Notes
pub mod Seating
pub mod Entered
pub mod Trails

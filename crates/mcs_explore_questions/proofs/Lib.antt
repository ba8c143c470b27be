pub mod Joining
pub mod Counting
pub mod Handing
pub mod Fitting

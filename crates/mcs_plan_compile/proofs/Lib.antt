pub mod Answered
pub mod Colons
pub mod Fielded
pub mod Opened
pub mod Said
pub mod Taken
pub mod Zeroed

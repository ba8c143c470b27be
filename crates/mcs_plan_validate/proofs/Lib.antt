pub mod Taken
pub mod Again
pub mod Boots

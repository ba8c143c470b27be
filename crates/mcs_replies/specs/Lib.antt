pub mod Changes
pub mod Links
pub mod Neighbours
pub mod Owing
pub mod Places
pub mod Rest
pub mod Tops

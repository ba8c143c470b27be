pub mod Changes
pub mod Linked
pub mod Fingers
pub mod Links
pub mod Neighbours
pub mod Numbers
pub mod Rows

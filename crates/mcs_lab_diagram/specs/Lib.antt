pub mod Arrows
pub mod Ends
pub mod Looks
pub mod Picks
pub mod Turned
pub mod Drawn
pub mod Dropped

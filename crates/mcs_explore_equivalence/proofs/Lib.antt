pub mod Mail
mod Settled
mod Adding
pub mod Asking
mod Acting
mod Ending
mod Rows
pub mod Asked
pub mod Answering
mod Table
pub mod Entries
pub mod Picking
pub mod Books
pub mod Exactly
pub mod ExactBooks
pub mod RunState
pub mod Likenesses
pub mod Back
pub mod Alikes
pub mod Outcomes

pub mod SameStanding
pub mod Lists
pub mod Noting
pub mod Telling
pub mod Keeping
pub mod Failing
pub mod Judgments
mod Firsts
pub mod Blinds
mod HeldRuns
pub mod Unnamed
mod Waiting
pub mod KeptRuns
pub mod Shortest
pub mod Always
pub mod Stuck
pub mod Seeing
pub mod Merging
pub mod Judged
pub mod Holding
pub mod Refuting
mod Slotting

-- Queues of endpoints and notifications, and who is in them.
pub mod Sorted
pub mod Waiting
pub mod QueueLaws
pub mod NoneBeside
pub mod WordLaws
pub mod Standings

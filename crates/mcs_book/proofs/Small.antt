-- Small books, by computation.
pub mod Computing
pub mod Examples
pub mod FairBooks
pub mod TurnBook
pub mod BrokenBooks

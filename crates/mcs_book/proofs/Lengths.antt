-- How many records a line has.
pub mod Queues
pub mod Pieces
pub mod Rows

-- Books: how they grow, their lines by core, and the laws of every legal book.
pub mod Cuts
pub mod Appending
pub mod Checking
pub mod HistoryLaws
pub mod ReplayLaws
pub mod TableLaws
pub mod CoreLines
pub mod KnownCores
pub mod LegalFair
pub mod PlainAnswers

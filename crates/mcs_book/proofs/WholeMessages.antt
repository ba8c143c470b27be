-- Whole messages and answers, piece by piece and row by row.
pub mod Records
pub mod Rows
pub mod Table
pub mod Lines

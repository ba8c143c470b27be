pub mod Alike
pub mod Answers
pub mod Books
pub mod ButNumbers
pub mod Likeness
pub mod Runs

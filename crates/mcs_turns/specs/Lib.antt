pub mod Due
pub mod Mail
pub mod Programs
pub mod AnswerRef
pub mod Turns

pub mod Texts
pub mod Programs
pub mod Questions
pub mod UserLists
pub mod Lives
pub mod Scripts
pub mod Steps
pub mod RunTexts

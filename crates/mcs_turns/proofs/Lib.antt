pub mod RunLaws
pub mod OneTurn
pub mod Among
pub mod Choices
pub mod Settling

pub mod ProgramLines
mod RunTexts
pub mod StepLines
pub mod Texts

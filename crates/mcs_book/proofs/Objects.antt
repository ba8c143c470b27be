-- What was made, and what is counted.
pub mod Same
pub mod MadeLaws
pub mod CountLaws

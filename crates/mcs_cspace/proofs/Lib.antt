pub mod Numbering
pub mod Bits
pub mod MaskLaws
pub mod LevelLaws
pub mod Walking
pub mod SpaceLaws
pub mod NamedLaws

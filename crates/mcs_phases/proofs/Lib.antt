pub mod Opening
pub mod PhaseLaws

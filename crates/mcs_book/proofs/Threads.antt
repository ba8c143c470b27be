-- Threads: who may enter, and what a thread holds.
pub mod EntersLaws
pub mod HoldingLaws
pub mod UserLaws

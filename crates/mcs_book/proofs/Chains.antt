-- Debts, chains of contexts, and what is given back.
pub mod ChainLaws
pub mod GivingBack

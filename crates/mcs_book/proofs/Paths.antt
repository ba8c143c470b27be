-- Lookup in capability spaces, and paths.
pub mod PathSteps
pub mod PathLaws
pub mod PathRefusals
pub mod LookupLaws
pub mod SlotLookup
pub mod LegalLookup

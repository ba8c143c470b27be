pub mod CopyLaws
pub mod SlotLaws
pub mod AddLaws
pub mod TallyLaws

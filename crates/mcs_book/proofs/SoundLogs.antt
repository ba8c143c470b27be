-- Sound logs: what each record must find, and what each piece and row keeps.
pub mod Keeping
pub mod KeepingRows
pub mod KeptLaws
pub mod Making
pub mod Safety
pub mod Closing
pub mod SoundBooks

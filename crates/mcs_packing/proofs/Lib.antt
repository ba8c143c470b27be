pub mod Packings
pub mod AddressLaws
pub mod HeadLaws

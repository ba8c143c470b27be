pub mod Finding
pub mod Feeding
pub mod NamesHad
pub mod GivenTo

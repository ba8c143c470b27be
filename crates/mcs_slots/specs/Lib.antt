pub mod Buckets
pub mod Cells
pub mod Copying
pub mod Filling
pub mod Masks
pub mod Numbers
pub mod Pages
pub mod Tallies

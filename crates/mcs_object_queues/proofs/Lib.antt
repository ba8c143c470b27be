mod Lists
mod Numbering
mod PlaceLaws

mod Channels
mod Joins
mod Lines
mod Lowerings
mod Turns

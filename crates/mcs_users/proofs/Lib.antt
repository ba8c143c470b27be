mod Adding
mod Order
mod Coming
mod Straight

mod Replayed
mod Checked
mod Explored
mod Planned
mod Answered
mod Picked
mod Stepped
mod Encoded

mod Follow
mod Holds
mod Acts
mod Answers
mod Pairing
mod Moves
mod Arrivals
pub mod Runs
mod Worked

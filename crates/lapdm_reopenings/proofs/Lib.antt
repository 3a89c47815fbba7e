mod Own
mod Sounds
mod Moves
mod Runs
mod Worked

pub mod Again
pub mod Halves
mod Loops
mod Mapped
mod Places
pub mod Stolen

-- `Runs` and `Lockstep` (runs of data links deliver), `Heard` and `LockstepHeard` are for the crates above.
mod Worked
mod Claims
mod Idle
mod Worlds
mod Queues
mod Links
pub mod Heard
mod RunsHeard
pub mod Runs
pub mod LockstepHeard
pub mod Lockstep

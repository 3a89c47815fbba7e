-- Runs of two data links on one channel.
pub mod Runs
pub mod Lockstep

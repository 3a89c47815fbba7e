-- Lemmas of this crate.
pub mod Taking
pub mod Firsts
pub mod Recordings
mod Worked

-- Lemmas of this crate.
pub mod Blocks
pub mod Lists
pub mod Frames
pub mod Carried
pub mod Recordings
mod Worked
mod WorkedSender
mod WorkedSacch

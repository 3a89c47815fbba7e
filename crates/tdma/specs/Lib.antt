-- The definitions that the contracts of this crate cite.
pub mod Frames
pub mod Numbers
pub mod Sync
pub mod Channels
pub mod Uplink
pub mod Traffic

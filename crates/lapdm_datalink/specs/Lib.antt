-- The definitions that the contracts of this crate cite.
pub mod Links
pub mod DataLinks
pub mod Abstraction
pub mod Sides
pub mod Parts
pub mod Slots
pub mod Outlooks
pub mod Unsent

pub mod Layout
pub mod Content
pub mod Frames
pub mod Refusals
pub mod Computed
pub mod Readings
pub mod AcceptedBlocks
pub mod Lengths

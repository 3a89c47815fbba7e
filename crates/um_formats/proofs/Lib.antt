pub mod BurstLines
pub mod FrameLines
mod Worked

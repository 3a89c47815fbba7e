pub use Rattle.lapdm_frame.specs as lapdm_frame
pub mod BurstLines
pub mod BurstTexts
pub mod CodeLines
pub mod FrameTexts
pub mod Held
pub mod Reports
pub mod ShowLines
pub mod ShowReading
pub mod SoftOctets
pub mod WrittenBursts

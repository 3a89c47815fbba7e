pub use Rattle.lapdm_frame.specs as lapdm_frame
pub mod Segments
pub mod Joining
pub mod Joiners
pub mod Cuttings
pub mod Parts
pub mod Buffers

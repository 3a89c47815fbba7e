pub use Rattle.lapdm_frame.specs as lapdm_frame
pub use Rattle.lapdm_window.specs as lapdm_window
pub mod Addresses
pub mod Windows
pub mod Abstraction
pub mod Refinement
pub mod Replies
pub mod Parts
pub mod Sides

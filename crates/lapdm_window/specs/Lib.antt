pub use Rattle.segmenting.specs.lapdm_frame as lapdm_frame
pub use Rattle.segmenting.specs as segmenting
pub mod Held
pub mod Ends
pub mod Rules
pub mod Tables
pub mod Calls
pub mod Steps
pub mod Answers
pub mod Abstraction
pub mod Parts
pub mod Sides

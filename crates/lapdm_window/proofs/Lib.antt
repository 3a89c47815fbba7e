pub use Rattle.segmenting.proofs.lapdm_frame as lapdm_frame
pub use Rattle.segmenting.proofs as segmenting
mod Steps
mod Windows
mod Restoring
pub mod Lemmas
mod EndpointExamples
mod Sessions

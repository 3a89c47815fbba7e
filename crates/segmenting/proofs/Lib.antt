pub use Rattle.lapdm_frame.proofs as lapdm_frame
pub mod Lemmas

pub use Rattle.bit_blocks.proofs as bit_blocks
pub mod Lemmas

pub use Rattle.conv_code.proofs as conv_code
pub mod Lemmas

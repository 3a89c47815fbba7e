pub use Rattle.list_decode.proofs as list_decode
pub mod Lemmas

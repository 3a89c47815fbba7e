pub use Rattle.fire_code.proofs as fire_code
pub mod Lemmas
mod Searching
mod Worked

pub mod Greatest
pub mod Lemmas

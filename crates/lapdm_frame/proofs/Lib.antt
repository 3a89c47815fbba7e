pub mod Lemmas
pub mod OneRead

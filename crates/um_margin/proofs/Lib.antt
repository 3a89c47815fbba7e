pub mod Lemmas
mod Comparing
mod Worked
pub mod Refuted

pub mod Lemmas
mod Worked

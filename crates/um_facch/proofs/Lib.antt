pub mod Lemmas
mod CleanTraining

pub mod Lemmas
pub mod Reporting
mod Worked
mod WorkedSync

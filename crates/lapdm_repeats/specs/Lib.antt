-- An answer that is said twice.
pub mod Repeats
pub mod Said

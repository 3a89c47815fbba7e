-- Faults of the other side.
pub mod Faults

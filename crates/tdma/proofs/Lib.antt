pub mod Lemmas
pub mod Tables
pub mod Cycles
pub mod Blocks
pub mod TrafficTables

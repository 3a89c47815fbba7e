mod Syndromes
mod BurstBits
pub mod RepairResults

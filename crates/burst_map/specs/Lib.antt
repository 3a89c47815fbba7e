pub use Rattle.training_seq.specs as training_seq
pub mod AccessBurst
pub mod NormalBurst
pub mod NormalParts
pub mod Parts
pub mod SyncBurst
pub mod Tails

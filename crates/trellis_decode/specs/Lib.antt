pub use Rattle.conv_code.specs as conv_code
pub mod Hard
pub mod Decisions
pub mod SignedOctets
pub mod MostLikely
pub mod Trellis
pub mod AcsLanes
pub mod SurvivorPaths
pub mod Candidates
pub mod Words

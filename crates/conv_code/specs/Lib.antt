pub use Rattle.bit_blocks.specs as bit_blocks
pub mod Code
pub mod Likelihood
pub mod States
pub mod CodedPairs

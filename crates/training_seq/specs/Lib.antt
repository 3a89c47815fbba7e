pub use Rattle.bit_blocks.specs as bit_blocks
pub mod Choice
pub mod Ranges
pub mod Sequences
pub mod Sums

pub use Rattle.bit_blocks.specs as bit_blocks
pub use Rattle.interleave.specs as interleave
pub use Rattle.burst_map.specs as burst_map
-- The definitions that the contracts of this crate cite.
pub mod Halves

pub use Rattle.bit_blocks.specs as bit_blocks
pub use Rattle.conv_code.specs as conv_code
pub use Rattle.weight_bound.specs as weight_bound
pub use Rattle.fire_code.specs as fire_code
pub use Rattle.interleave.specs as interleave
pub use Rattle.burst_map.specs as burst_map
pub use Rattle.trellis_decode.specs as trellis_decode
-- Definitions that the contracts of this crate cite.
pub mod Computed
pub mod Received
pub mod Restored
pub mod Sent
pub mod Tallies

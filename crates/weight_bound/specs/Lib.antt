pub use Rattle.conv_code.specs as conv_code
pub use Rattle.bit_blocks.specs as bit_blocks
pub mod Distance
pub mod Restoring

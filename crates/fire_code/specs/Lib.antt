pub use Rattle.bit_blocks.specs as bit_blocks
pub mod Crcs
pub mod Registers
pub mod Words

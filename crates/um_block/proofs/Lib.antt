pub use Rattle.conv_code.proofs as conv_code
pub use Rattle.weight_bound.proofs as weight_bound
pub use Rattle.interleave.proofs as interleave
pub use Rattle.bit_blocks.proofs as bit_blocks
pub use Rattle.trellis_decode.proofs as trellis_decode
pub use Rattle.burst_map.proofs as burst_map
pub mod Lemmas
mod SentBursts
mod SoftenedBits
mod ReceivedBursts
mod Restoring
mod WrongBits
pub mod Tallies
pub mod ComputedReports

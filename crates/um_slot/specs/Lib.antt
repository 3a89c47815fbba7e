pub use Rattle.tdma.specs as tdma
-- The definitions that the contracts of this crate cite.
pub mod Numbers
pub mod Slots
pub mod Recordings

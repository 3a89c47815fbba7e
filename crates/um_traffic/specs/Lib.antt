pub use Rattle.half_bursts.specs as half_bursts
pub use Rattle.um_slot.specs as um_slot
-- The definitions that the contracts of this crate cite.
pub mod Receivers
pub mod Recordings
pub mod Senders

pub use Rattle.half_bursts.specs as half_bursts
pub use Rattle.um_list_receive.specs as um_list_receive
-- The definitions that the contracts of this crate cite.
pub mod Facch
pub mod Training

pub use Rattle.list_decode.specs as list_decode
-- The definitions that the contracts of this crate cite.
pub mod ListDecoding

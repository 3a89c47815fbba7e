-- The definitions that the contracts of this crate cite.
pub mod Compared
pub mod Comparing
pub mod Margins
pub mod Texts
pub use Rattle.um_replay.specs.um_driver.Rules

-- The definitions that the contracts of this crate cite.
pub mod RepairLines
pub mod RepairRules
pub mod Texts
pub use Rattle.um_driver.specs.Rules

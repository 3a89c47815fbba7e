pub use Rattle.um_driver.specs as um_driver
pub use Rattle.um_driver.specs.um_lines as um_lines
pub use Rattle.um_formats.specs as um_formats
-- The definitions that the contracts of this crate cite.
pub mod BurstRules
pub mod Replay
pub mod Reporting
pub use Rattle.um_driver.specs.Rules

-- The definitions that the contracts of this crate cite.
pub mod Decoded
pub mod Headline
pub mod Make
pub mod Restored
pub mod Machines
pub mod Shapes
pub mod WordLists
pub use Rattle.um_driver.specs.Table
pub use Rattle.um_driver.specs.Outputs
pub use Rattle.um_driver.specs.Rules
pub mod Arrivals
pub mod EndAnswers

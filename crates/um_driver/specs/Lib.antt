pub use Rattle.um_lines.specs as um_lines
-- The definitions that the contracts of this crate cite.
pub mod Progress
pub mod Divided
pub mod Outputs
pub mod Continued
pub mod Rules
pub mod Statuses
pub mod Table
pub mod Writing

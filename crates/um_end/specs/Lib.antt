pub use Rattle.um_link.specs.um_block as um_block
pub use Rattle.um_link.specs.lapdm_frame as lapdm_frame
pub use Rattle.um_link.specs.um_io as um_io
pub use Rattle.um_link.specs as um_link
-- The definitions that the contracts of this crate cite.
pub mod Terminals
pub mod Abstraction
pub mod CallEvents
pub mod EndLines
pub mod EndRuns
pub mod Commands
pub mod TwoTerminals
pub mod EndTurns

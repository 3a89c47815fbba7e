pub use Rattle.um_link.proofs.um_block as um_block
pub use Rattle.um_lines.proofs as um_lines
pub mod EndSteps
mod EndTexts
mod Worked
mod Refuted
pub mod EndLineLaws
pub mod AnswerSizes
pub mod TwoTerminals

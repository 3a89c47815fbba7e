pub use Rattle.um_lines.proofs as um_lines
pub mod AnswerLaws
pub mod ScriptLines
mod Worked

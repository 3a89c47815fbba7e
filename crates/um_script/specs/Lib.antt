pub use Rattle.um_lines.specs as um_lines
pub mod AnswerLines
pub mod AnswerWords
pub mod Held
pub mod Names
pub mod Naming
pub mod ScriptLines
pub mod ScriptReading

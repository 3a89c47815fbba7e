pub use Rattle.um_script.specs as um_script
pub mod Generated
pub mod Summaries
pub mod Runs
pub mod Texts
pub mod Counting
pub mod Courses

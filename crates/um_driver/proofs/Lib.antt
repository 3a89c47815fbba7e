pub use Rattle.um_lines.proofs as um_lines
pub mod Outputs
mod Reading
pub mod Runs
pub mod WholeInputs
mod Worked

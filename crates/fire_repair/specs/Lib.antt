pub use Rattle.fire_code.specs as fire_code
pub mod Answers
pub mod Bursts
pub mod Repairs

pub use Rattle.um_formats.proofs as um_formats
mod Worked
mod Vectors

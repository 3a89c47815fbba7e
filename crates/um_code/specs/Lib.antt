pub use Rattle.um_formats.specs as um_formats
pub mod Code

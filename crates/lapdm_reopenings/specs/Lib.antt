-- Data links whose links are opened again and again.
pub mod Reopenings

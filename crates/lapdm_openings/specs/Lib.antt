-- Links that are opened again and again.
pub mod Pairs
pub mod Openings

pub mod Lemmas
pub mod ErasingFacch

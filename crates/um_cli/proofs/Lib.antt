pub mod Lemmas
pub mod Deciding
pub mod Restoring
mod Refuted
mod RefutedReports

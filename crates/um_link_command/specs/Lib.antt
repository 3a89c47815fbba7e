-- The definitions that the contracts of this crate cite.
pub mod Sessions
pub mod Courses
pub mod Promises

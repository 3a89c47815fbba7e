-- The definitions that the contracts of this crate cite.
pub mod Answers
pub mod SourceCalls
pub mod Buffer
pub mod SearchResults
pub mod Lines
pub mod Memory
pub mod Next
pub mod Streams
pub mod Reading

pub mod Division
mod LineFeeds
pub mod Reader

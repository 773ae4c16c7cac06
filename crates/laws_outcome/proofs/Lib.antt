pub mod Feeds
pub mod Outcome
pub mod Reader

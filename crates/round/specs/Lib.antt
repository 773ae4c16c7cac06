pub mod Round
pub mod Tracked

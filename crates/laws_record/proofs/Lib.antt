mod Values
pub mod Keepable
pub mod Lies
pub mod Kept
pub mod Older
pub mod Whence
pub mod Verdict
pub mod Newest
pub mod States
pub mod ReadKeepable
pub mod Written
pub mod Flags
pub mod Round

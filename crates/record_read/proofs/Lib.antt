pub mod Editions
mod Seen
mod Verdict
pub mod Whole
pub mod Widths

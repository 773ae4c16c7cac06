pub mod Span
pub mod Steps

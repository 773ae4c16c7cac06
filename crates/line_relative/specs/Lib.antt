pub mod Relative
pub mod Steps

pub mod Flip
pub mod Steps

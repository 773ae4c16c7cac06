pub mod Mirp
pub mod Steps

pub mod Alignpts
pub mod Steps

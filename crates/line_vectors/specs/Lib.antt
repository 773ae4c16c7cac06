pub mod Vectors
pub mod Steps

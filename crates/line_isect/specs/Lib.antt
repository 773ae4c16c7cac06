pub mod Isect
pub mod Steps

pub mod Carry
pub mod Steps

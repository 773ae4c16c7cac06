pub mod Arriving
pub mod Steps

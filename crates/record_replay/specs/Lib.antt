pub mod Shelf
pub mod Steps

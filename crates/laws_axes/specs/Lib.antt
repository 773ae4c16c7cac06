pub mod Axes
pub mod Plain
pub mod Reached

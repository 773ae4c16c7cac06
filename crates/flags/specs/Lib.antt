pub mod Axis
pub mod Flag

pub mod Axis
pub mod Cases
pub mod Keeps

pub mod PointsFit
pub mod Steps
pub mod Index
pub mod Setters
pub mod Contours
pub mod Lines
pub mod Run

pub mod Parts
pub mod Filling
pub mod Storing
pub mod Back
pub mod Sums
pub mod Widths

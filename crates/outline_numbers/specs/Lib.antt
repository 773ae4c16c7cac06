pub mod Drawing
pub mod Fraction

pub mod Sizes
pub mod Zone

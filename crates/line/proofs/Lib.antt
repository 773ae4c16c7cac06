pub mod Cases
pub mod Alike

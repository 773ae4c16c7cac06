pub mod Back
pub mod Cases

pub mod Both
pub mod Cases
pub mod Places

pub mod Placing
pub mod Joined
pub mod Cases
mod Steps

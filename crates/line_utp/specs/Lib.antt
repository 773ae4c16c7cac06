pub mod Steps
pub mod Utp

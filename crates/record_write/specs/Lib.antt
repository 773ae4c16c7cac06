pub mod Steps
pub mod Written

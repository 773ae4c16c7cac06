pub mod Look
pub mod Steps

pub mod Fed
pub mod Steps

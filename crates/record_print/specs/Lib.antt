pub mod Print
pub mod Steps
pub mod Text

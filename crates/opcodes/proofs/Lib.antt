pub mod Entries
pub mod Lines
pub mod Rows

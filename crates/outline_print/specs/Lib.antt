pub mod Lines
pub mod Print

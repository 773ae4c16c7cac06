pub mod Calls
pub mod Entries
pub mod Few
pub mod Lines
pub mod Pieces
pub mod Words

pub mod Line
pub mod Operands
pub mod Places
pub mod Sizes
pub mod World

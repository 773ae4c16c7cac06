pub mod Decimal
mod Lines
pub mod Numbers
pub mod Puts
pub mod Room

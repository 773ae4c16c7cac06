pub mod Outline
pub mod Pen

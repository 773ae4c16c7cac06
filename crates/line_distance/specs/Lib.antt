pub mod Distance
pub mod Outline

mod Parts
mod Places
mod Same
pub mod Back

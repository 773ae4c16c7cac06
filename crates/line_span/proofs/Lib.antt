pub mod Bridge
mod Cases
mod Walk

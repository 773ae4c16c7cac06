pub mod Bridge
pub mod Laws
pub mod Walk
pub mod Zones

pub mod Seen
pub mod Newton
pub mod Settles
pub mod Nearness
pub mod Laws

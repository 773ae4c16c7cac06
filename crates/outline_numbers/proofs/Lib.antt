pub mod Bounded
pub mod Exact
pub mod Examples
pub mod Near

pub mod Apply
pub mod Displacement
pub mod Move

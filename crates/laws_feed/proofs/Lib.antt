pub mod Held
pub mod Calls
pub mod Examples
pub mod Kept
pub mod Run
pub mod Start
pub mod Limit
pub mod Whole

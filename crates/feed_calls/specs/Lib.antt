pub mod Left
pub mod Feed

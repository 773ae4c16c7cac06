pub mod Shelved
pub mod Written
pub mod Reread
pub mod Rewritten
pub mod Replayed
pub mod Sample

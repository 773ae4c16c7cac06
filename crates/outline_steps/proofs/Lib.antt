pub mod Cases
pub mod Closeness
pub mod OneByOne

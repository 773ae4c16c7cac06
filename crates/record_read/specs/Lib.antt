pub mod Format
pub mod Read

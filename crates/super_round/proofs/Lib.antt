pub mod Facts
pub mod Numbers

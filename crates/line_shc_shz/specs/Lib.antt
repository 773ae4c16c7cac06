pub mod Shc

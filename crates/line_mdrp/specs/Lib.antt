pub mod Mdrp

pub mod Iup

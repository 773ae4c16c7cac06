pub mod Msirp

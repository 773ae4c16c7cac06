pub mod Contour
pub mod Iup
pub mod Parts

pub mod Outlined
pub mod Printed
pub mod Putting
pub mod Room

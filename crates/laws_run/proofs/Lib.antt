pub mod Counted
pub mod Place
pub mod Budget
pub mod Left
pub mod Keeps
pub mod Numbers
pub mod Sloppy

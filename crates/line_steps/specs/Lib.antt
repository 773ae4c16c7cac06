pub mod Loop
pub mod Numbers
pub mod Steps

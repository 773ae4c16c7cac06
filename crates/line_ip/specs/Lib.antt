pub mod Ip
pub mod Loop

pub mod Firsts
pub mod Joins
pub mod Rooms

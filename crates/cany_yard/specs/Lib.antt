pub mod Course
pub mod Seats
pub mod Steps

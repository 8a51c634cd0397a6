pub mod Counts
pub mod Eager
pub mod Series

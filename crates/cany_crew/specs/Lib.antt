pub mod Gates
pub mod Held
pub mod Ending
pub mod Assignment
pub mod Assignments
pub mod Top
pub mod TextRun

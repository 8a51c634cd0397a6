pub mod Actions
pub mod Calls
pub mod Numbers
pub mod Sequence
pub mod Table

pub mod Edcan
pub mod EdcanSteps

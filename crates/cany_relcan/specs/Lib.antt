pub mod Relcan
pub mod RelcanSteps
pub mod Timers

pub mod Acceptances
pub mod Backlog
pub mod MessageSet
pub mod Queue
pub mod Rests
pub mod Totcan
pub mod TotcanSteps

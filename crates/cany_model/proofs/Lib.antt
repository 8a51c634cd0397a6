pub mod Among
pub mod Bus
pub mod Promises
pub mod RowWords
pub mod Rules
pub mod Runs
pub mod Timed

pub mod History
pub mod HistorySteps

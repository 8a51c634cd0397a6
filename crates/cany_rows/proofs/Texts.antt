-- Rows of the texts: scenarios that are read or refused, lines of a report.
pub mod AsksTextRows
pub mod FaultOrderRows
pub mod FaultsTextRows
pub mod JournalTextRows
pub mod RangeTextRows
pub mod RefusalLineRows
pub mod ReportRows
pub mod RestartReportRows
pub mod ScenarioTextRows
pub mod SendsTextRows
pub mod TextWords
pub mod ViewReportRows
pub mod WholeTextRows

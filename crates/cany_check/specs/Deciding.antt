-- What is decided of an account.
pub mod Accuracy
pub mod Fates
pub mod Findings
pub mod FindingsFields
pub mod Holders
pub mod Integrity
pub mod Judged
pub mod Marks
pub mod Meeting
pub mod MessageSubjects
pub mod NodeOrder
pub mod OneOrder
pub mod Reference
pub mod SignSubjects
pub mod Verdict
pub mod ViewRows
pub mod Views

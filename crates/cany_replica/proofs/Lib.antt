pub mod AgreementFacts
pub mod AgreementRows
pub mod FoldFacts
pub mod Rows
pub mod TextFacts
pub mod TopFacts

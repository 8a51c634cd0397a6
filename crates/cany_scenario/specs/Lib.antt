pub mod Arrays
pub mod AsksParts
pub mod Entries
pub mod JournalParts
pub mod NodesParts
pub mod SendsParts

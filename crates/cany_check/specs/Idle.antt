-- Entries that did nothing in a run.
pub mod Asks
pub mod Attempts
pub mod Presence
pub mod Unused

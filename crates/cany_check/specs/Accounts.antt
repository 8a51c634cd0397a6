-- Accounts: their parts, how they are made of a run, and where a message stands in one.
pub mod Account
pub mod AccountFields
pub mod Orderly
pub mod Places
pub mod PlacesInside
pub mod Records
pub mod Words

pub mod Levels
pub mod Offers
pub mod Outcome
pub mod Walk

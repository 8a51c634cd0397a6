pub mod Bus
pub mod BusFields
pub mod Contest
pub mod Controllers
pub mod Each
pub mod Rest
pub mod Seeing

-- What the rules of a node ask for, withdraw and enter.
pub mod ErrorCounts
pub mod ErrorFacts
pub mod ErrorMembership
pub mod ErrorMessages
pub mod IdleBeforeTakingPart
pub mod IncarnationFacts
pub mod LogFacts
pub mod MutedFacts
pub mod NumberFacts
pub mod ProtocolFacts
pub mod Protocols
pub mod RoomFacts
pub mod Services
pub mod Site
pub mod TurnEntries
pub mod TurnFacts
pub mod Waits

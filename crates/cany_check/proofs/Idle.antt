-- Proofs of which entries did nothing.
pub mod AttemptFacts
pub mod FaultFacts
pub mod NamedFacts
pub mod PlacesFound
pub mod PresenceFacts
